-- Rows laid end to end, written a part of each at a time, place by place: tiles side by side make up whole rows.
use Prim.Native.Nat.{ℕ, zero, suc, ◌+◌, ◌-◌, ◌*◌, ◌/◌, ◌%◌, ◌≤◌, ◌<◌}
use mathlib.Core.Path.{◌≡◌, refl, sym, ap, subst, ◌∙◌}
use mathlib.Core.Bool.{Bool, true, false}
use mathlib.Core.List.{List, ◌++◌}
use native.Mathlib.Nat.{le_refl, mul-zero, mul-le-mul_right, add_assoc, mod-lt, div-add-mod'}
use native.Mathlib.Omega.{arith}
use borrow.Author.Tests.{ltb-true, ltb-false}
use lib.Dec.{ltb}
use lib.ListN.{length, take, drop, get_or, length-append, length-drop, get_or-append}
use lib.Seq.{ext_get_or, get_or-append-add, get_or-take, get_or-drop, length-take-le}
use Rattle.laws.specs.Rows.{laid}
use Rattle.laws.proofs.Lists.{length_laid, laid_at, behind_part}
use Rattle.laws.proofs.Rows.{row_within}
use Rattle.picture.specs.Inner.{Painted, Tiled}

-- ---- a part written through a loan
module _ (start n : ℕ) (part l : List ℕ) (size : length part ≡ n) (room : start + n ≤ length l) where
  abbrev put : List ℕ
  put = take start l ++ (part ++ drop (start + n - start) (drop start l))

  front : length (take start l) ≡ start
  front = length-take-le start l (omega arith)

  put_length : length put ≡ length l
  put_length = rw (behind_part start n l, length-append, length-append, length-drop, front, size) (omega arith)

  put_before : (i : ℕ) → i < start → get_or put i 0 ≡ get_or l i 0
  put_before i h = get_or-append (take start l) _ 0 i (omega (arith, front, h)) ∙ get_or-take start l i 0 h

  put_inside : (i : ℕ) → i < n → get_or put (start + i) 0 ≡ get_or part i 0
  put_inside i h =
      ap (λ (k : ℕ). get_or put (k + i) 0) (sym front) ∙ get_or-append-add (take start l) _ i 0 ∙ get_or-append part _ 0 i (omega (arith, size, h))

  put_behind : (i : ℕ) → start + n ≤ i → get_or put i 0 ≡ get_or l i 0
  put_behind i h =
      let j = i - (start + n) in
      let rest = drop (start + n - start) (drop start l) in
      let at : i ≡ start + (n + j) = omega arith in
      let back : start + n + j ≡ i = omega arith in
      ap (λ (k : ℕ). get_or put k 0) at
      ∙ ap (λ (k : ℕ). get_or put (k + (n + j)) 0) (sym front)
      ∙ get_or-append-add (take start l) (part ++ rest) (n + j) 0
      ∙ ap (λ (k : ℕ). get_or (part ++ rest) (k + j) 0) (sym size)
      ∙ get_or-append-add part rest j 0
      ∙ ap (λ (r : List ℕ). get_or r j 0) (behind_part start n l)
      ∙ get_or-drop (start + n) l j 0
      ∙ ap (λ (k : ℕ). get_or l k 0) back

-- ---- a tile, row after row
-- what stands in the rows before row y ends before it starts
above : (y' y width : ℕ) → y' < y → y' * width + width ≤ y * width
above y' y width l = row_within y' y width (y * width) l (le_refl (y * width))

module _
    {part : ℕ → List ℕ} {count width left span : ℕ} {old new : List ℕ} {y : ℕ} {bytes : List ℕ} (fits : left + span ≤ width) (room : count * width ≤ length old)
    (t : Tiled part count width left span old new y) (inside : y < count) (e : bytes ≡ part y) (size : length (part y) ≡ span) where
  abbrev start : ℕ
  start = y * width + left

  abbrev newer : List ℕ
  newer = take start new ++ (bytes ++ drop (start + span - start) (drop start new))

  long_part : length bytes ≡ span
  long_part = ap length e ∙ size

  ends : start + span ≤ length new
  ends = omega (arith, fits, row_within y count width (length old) inside room, t.long)

  still : (b : Bool) (y' j : ℕ) → ltb y y' ≡ b → y' < count → j < left → get_or newer (y' * width + j) 0 ≡ get_or old (y' * width + j) 0
  still true y' j b l m =
      put_behind start span bytes new long_part ends (y' * width + j) (omega (arith, fits, above y y' width (ltb-true y y' b))) ∙ t.kept y' j l m
  still false y' j b l m =
      put_before start span bytes new long_part ends (y' * width + j) (omega (arith, mul-le-mul_right {m = y'} {n = y} width (ltb-false y y' b), m))
      ∙ t.kept y' j l m

  own : (b : Bool) (y' j : ℕ) → ltb y' y ≡ b → y' < y + 1 → j < span → get_or newer (y' * width + (left + j)) 0 ≡ get_or (part y') j 0
  own true y' j b l m =
      put_before start span bytes new long_part ends (y' * width + (left + j)) (omega (arith, fits, above y' y width (ltb-true y' y b), m))
      ∙ t.put y' j (ltb-true y' y b) m
  own false y' j b l m =
      let same : y' ≡ y = omega (arith, ltb-false y' y b, l) in
      ap (λ (n : ℕ). get_or newer (n * width + (left + j)) 0) same
      ∙ ap (λ (n : ℕ). get_or newer n 0) (sym (add_assoc (y * width) left j))
      ∙ put_inside start span bytes new long_part ends j m
      ∙ ap (λ (b : List ℕ). get_or b j 0) e
      ∙ ap (λ (n : ℕ). get_or (part n) j 0) (sym same)

  pub tile_row : Tiled part count width left span old newer (y + 1)
  tile_row = record {
    long = put_length start span bytes new long_part ends ∙ t.long;
    kept = λ y' j l m. still (ltb y y') y' j refl l m;
    put = λ y' j l m. own (ltb y' y) y' j refl l m;
  }

-- ---- tiles side by side
module _ {row part : ℕ → List ℕ} {count width left span : ℕ} {old new : List ℕ} where
  -- the bytes of a row up to a tile's end are those up to its start, and the tile's
  pub tile_more :
      Painted row count width left old → Tiled part count width left span old new count →
      ((y j : ℕ) → y < count → j < span → get_or (part y) j 0 ≡ get_or (row y) (left + j) 0) → Painted row count width (left + span) new
  tile_more p t same = record { places = λ y j l m. place (ltb j left) y j refl l m }
    where
      place : (b : Bool) (y j : ℕ) → ltb j left ≡ b → y < count → j < left + span → get_or new (y * width + j) 0 ≡ get_or (row y) j 0
      place true y j b l m = t.kept y j l (ltb-true j left b) ∙ p.places y j l (ltb-true j left b)
      place false y j b l m =
          let k = j - left in
          let few : k < span = omega (arith, ltb-false j left b, m) in
          let at : j ≡ left + k = omega (arith, ltb-false j left b) in
          ap (λ (n : ℕ). get_or new (y * width + n) 0) at ∙ t.put y k l few ∙ same y k l few ∙ ap (λ (n : ℕ). get_or (row y) n 0) (sym at)

pub painted_to : {row : ℕ → List ℕ} {count width m n : ℕ} {l : List ℕ} → m ≡ n → Painted row count width m l → Painted row count width n l
painted_to {row} {count} {width} {m} {n} {l} e = subst (λ (upto : ℕ). Painted row count width upto l) e

-- all of it
pub painted_whole :
    {row : ℕ → List ℕ} {count : ℕ} (width : ℕ) {l : List ℕ} → ((y : ℕ) → length (row y) ≡ width) → length l ≡ count * width → Painted row count width width l →
    l ≡ laid count row
painted_whole {row} {count} zero {l} wide size p =
    ext_get_or 0 l (laid count row) (size ∙ sym (length_laid row 0 wide count)) (λ i h. absurd (omega (arith, size, mul-zero count, h)))
painted_whole {row} {count} (suc w) {l} wide size p =
    ext_get_or 0 l (laid count row) (size ∙ sym (length_laid row (suc w) wide count)) (λ i h. place i (omega (arith, size, h)))
  where
    inside : (b : Bool) (i : ℕ) → ltb (i / suc w) count ≡ b → i < count * suc w → i / suc w < count
    inside true i b h = ltb-true (i / suc w) count b
    inside false i b h =
        absurd (omega (arith, mul-le-mul_right {m = count} {n = i / suc w} (suc w) (ltb-false (i / suc w) count b), div-add-mod' i (suc w), h))

    place : (i : ℕ) → i < count * suc w → get_or l i 0 ≡ get_or (laid count row) i 0
    place i h =
        let y = i / suc w in
        let j = i % suc w in
        let at : y * suc w + j ≡ i = div-add-mod' i (suc w) in
        let in_row : j < suc w = mod-lt i (omega arith) in
        let in_rows = inside (ltb y count) i refl h in
        ap (λ (n : ℕ). get_or l n 0) (sym at) ∙ p.places y j in_rows in_row ∙ sym (laid_at row (suc w) wide count j y 0 in_row in_rows)
        ∙ ap (λ (n : ℕ). get_or (laid count row) n 0) at
