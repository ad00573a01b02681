-- Laws of rows: what three rows lent as parts of a plane have, and that their bends are those of the plane's codes; and the same of tiles, which
-- are parts of rows.
use Prim.Native.Nat.{ℕ, ◌+◌, ◌-◌, ◌*◌, ◌≤◌, ◌<◌, min}
use mathlib.Core.Path.{◌≡◌, refl, ap, ap₂, ◌∙◌}
use mathlib.Core.List.{List}
use native.Mathlib.Nat.{add-mul, mul-le-mul_right}
use native.Mathlib.Omega.{arith}
use lib.ListN.{length, get_or, take, drop}
use lib.Seq.{get_or-take}
use Rattle.laws.specs.Sums.{sum_over, apart}
use Rattle.laws.proofs.Lists.{part_length, part_at}
use Rattle.laws.proofs.Sums.{same_terms, sum_parts}
use Rattle.comb.specs.declared.Kind.{Kind}
use Rattle.comb.specs.declared.Kind.TheVariants.{Byte, Pair, Cut, Green}
use Rattle.comb.specs.Comb.{bend_of}
use Rattle.comb.specs.Rows.{size_of, code_in, bend_in, codes_of, low_in, Rows}

-- a bend of three numbers is that of the codes which they are
pub same_bend : {a b c up here down r : ℕ} → r ≡ apart (2 * b) (a + c) → a ≡ up → b ≡ here → c ≡ down → r ≡ apart (2 * here) (up + down)
same_bend e u h d = e ∙ (λ i. apart (2 * h i) (u i + d i))

-- ---- where rows start
pub next_row : (y stride : ℕ) {start : ℕ} → start ≡ y * stride → start + stride ≡ (y + 1) * stride
next_row y stride e = rw add-mul (omega arith)

row_after_next : (y stride : ℕ) {start : ℕ} → start ≡ y * stride → start + stride + stride ≡ (y + 2) * stride
row_after_next y stride e = rw add-mul (omega arith)

-- a row that has two below it starts two strides before the last, or earlier
pub two_below : (y height stride : ℕ) → y + 2 < height → y * stride + stride + stride ≤ (height - 1) * stride
two_below y height stride h =
    let rows : y + 2 ≤ height - 1 = omega arith in
    rw (row_after_next y stride refl) (mul-le-mul_right stride rows)

-- ---- a row lent as a part of its plane
-- in each of its columns it has the code that stands there in the whole list
part_code : (kind : Kind) (bytes : List ℕ) (width x : ℕ) → x < width → code_in kind (take (width * size_of kind) bytes) x ≡ code_in kind bytes x
part_code Byte bytes width x h = get_or-take (width * 1) bytes x 0 (omega arith)
part_code Pair bytes width x h =
    ap₂ (λ (low high : ℕ). low + 256 * high) (get_or-take (width * 2) bytes (x * 2) 0 (omega arith)) (get_or-take (width * 2) bytes (x * 2 + 1) 0 (omega arith))
part_code (Cut full) bytes width x h =
    ap₂ (λ (low high : ℕ). min (low + 256 * high) full) (get_or-take (width * 2) bytes (x * 2) 0 (omega arith)) (get_or-take (width * 2) bytes (x * 2 + 1) 0 (omega arith))
part_code Green bytes width x h = get_or-take (width * 4) bytes (x * 4 + 1) 0 (omega arith)

-- row y of a plane, lent as a part, has the plane's codes
row_code :
    (kind : Kind) (bytes : List ℕ) (width stride x y : ℕ) {n start : ℕ} {row : List ℕ} →
    n ≡ width * size_of kind → start ≡ y * stride → row ≡ take n (drop start bytes) → x < width → code_in kind row x ≡ codes_of kind bytes stride x y
row_code kind bytes width stride x y long s r l =
    (λ i. code_in kind (r i) x) ∙ (λ i. code_in kind (take (long i) (drop (s i) bytes)) x) ∙ part_code kind (drop (y * stride) bytes) width x l

-- ---- rows y, y + 1 and y + 2 of a plane, lent as parts of n bytes
module _
    (kind : Kind) (bytes : List ℕ) (width stride y : ℕ) {n start : ℕ} {up here down : List ℕ}
    (long : n ≡ width * size_of kind)
    (s : start ≡ y * stride)
    (u : up ≡ take n (drop start bytes))
    (h : here ≡ take n (drop (start + stride) bytes))
    (d : down ≡ take n (drop (start + stride + stride) bytes)) where
  pub lent_rows : width ≤ 8192 → low_in kind → start + stride + stride + n ≤ length bytes → Rows kind width up here down
  lent_rows w low last = record {
    above = ap length u ∙ part_length bytes start n (omega arith) ∙ long;
    inner = ap length h ∙ part_length bytes (start + stride) n (omega arith) ∙ long;
    below = ap length d ∙ part_length bytes (start + stride + stride) n (omega arith) ∙ long;
    narrow = w;
    low = low;
  }

  -- their bends, added up, are those of the plane's codes
  pub lent_bends : {sum : ℕ} → sum ≡ sum_over width (bend_in kind up here down) → sum ≡ sum_over width (λ x. bend_of (codes_of kind bytes stride) x y)
  lent_bends e =
      e
      ∙ same_terms width _ _
      (λ x l.
      same_bend refl (row_code kind bytes width stride x y long s u l)
      (row_code kind bytes width stride x (y + 1) long (next_row y stride s) h l)
      (row_code kind bytes width stride x (y + 2) long (row_after_next y stride s) d l))

-- ---- a tile lent as a part of its row, n columns from column x on
-- in each of its columns it has the code that stands there in the row
tile_code :
    (full : ℕ) (row : List ℕ) (x n k : ℕ) {part : List ℕ} → part ≡ take (2 * n) (drop (2 * x) row) → k < n →
    code_in (Cut full) part k ≡ code_in (Cut full) row (x + k)
tile_code full row x n k p h =
    let low : 2 * x + k * 2 ≡ (x + k) * 2 = omega arith in
    let high : 2 * x + (k * 2 + 1) ≡ (x + k) * 2 + 1 = omega arith in
    (λ i. code_in (Cut full) (p i) k)
    ∙ ap₂ (λ (a b : ℕ). min (a + 256 * b) full)
    (part_at row (2 * x) (2 * n) (k * 2) 0 (omega arith) ∙ ap (λ (at : ℕ). get_or row at 0) low)
    (part_at row (2 * x) (2 * n) (k * 2 + 1) 0 (omega arith) ∙ ap (λ (at : ℕ). get_or row at 0) high)

module _
    (full : ℕ) (up here down : List ℕ) (x n : ℕ) {upper inner lower : List ℕ}
    (u : upper ≡ take (2 * n) (drop (2 * x) up))
    (h : inner ≡ take (2 * n) (drop (2 * x) here))
    (d : lower ≡ take (2 * n) (drop (2 * x) down)) where
  pub tile_rows : {width : ℕ} → Rows (Cut full) width up here down → x + n ≤ width → Rows (Cut full) n upper inner lower
  tile_rows {width} r w =
      let size : 2 * n ≡ n * 2 = omega arith in
      record {
        above = ap length u ∙ part_length up (2 * x) (2 * n) (omega (arith, r.above)) ∙ size;
        inner = ap length h ∙ part_length here (2 * x) (2 * n) (omega (arith, r.inner)) ∙ size;
        below = ap length d ∙ part_length down (2 * x) (2 * n) (omega (arith, r.below)) ∙ size;
        narrow = omega (arith, r.narrow);
        low = r.low;
      }

  -- with its bends, those of the columns before it become those of the columns up to its end
  pub adds_tile :
      (before : ℕ) {held later : ℕ} →
      held ≡ before + sum_over x (bend_in (Cut full) up here down) → later ≡ held + sum_over n (bend_in (Cut full) upper inner lower) →
      later ≡ before + sum_over (x + n) (bend_in (Cut full) up here down)
  adds_tile before s m =
      omega (
        arith,
        s,
        m,
        same_terms n (bend_in (Cut full) upper inner lower) (λ k. bend_in (Cut full) up here down (x + k))
            (λ k l. same_bend refl (tile_code full up x n k u l) (tile_code full here x n k h l) (tile_code full down x n k d l)),
        sum_parts x n (bend_in (Cut full) up here down),
      )
