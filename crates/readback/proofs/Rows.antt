-- Laws of rows: that the copy of a row, made by its kind, holds the plane's words.
use Prim.Native.Nat.{ℕ, ◌+◌, ◌-◌, ◌*◌, ◌/◌, ◌%◌, ◌^◌, ◌≤◌, ◌<◌}
use mathlib.Core.Path.{◌≡◌, refl, sym, ap, ap₂, ◌∙◌}
use mathlib.Core.Bool.{Bool, true, false, cond}
use mathlib.Core.List.{List, [], ◌∷◌, ◌++◌}
use native.Mathlib.Nat.{div-one, mul_assoc}
use native.Mathlib.Omega.{arith}
use lib.Dec.{leb}
use lib.ListN.{length, get_or, take, drop}
use borrow.Author.Tests.{leb-true, lt-leb}
use Rattle.laws.specs.Rows.{laid, over}
use Rattle.laws.proofs.Lists.{part_at, part_length, same_laid, length_laid, Stacked, stack_starts, stacks, stack_ends}
use Rattle.laws.proofs.Rows.{row_within, strided_within, length_part}
use Rattle.plane.specs.declared.Shape.{Shape}
use Rattle.plane.specs.declared.Layout.{Layout}
use Rattle.plane.specs.declared.Layout.TheVariants.{Planar, Luma, First, Second}
use Rattle.plane.specs.Plane.{alone, components, component, sample_bytes, row_bytes, shift, word_of}
use Rattle.plane.proofs.Places.{no_shift}
use Rattle.readback.specs.declared.Kind.{Kind}
use Rattle.readback.specs.declared.Kind.TheVariants.{Byte, EverySecondByte, Pair, EverySecondPair}
use Rattle.readback.specs.Readback.{word_bytes, copied_row, copied_of}
use Rattle.readback.specs.Inner.{kind_by, kind_of, step_of, size_of, pair_of, copy_in, RowRoom, PlaneReady}

-- ---- how long rows are
step_by : (byte : Bool) (layout : Layout) → step_of (kind_by byte (alone layout)) ≡ components layout * cond byte 1 2
step_by true Planar = refl
step_by true Luma = refl
step_by true First = refl
step_by true Second = refl
step_by false Planar = refl
step_by false Luma = refl
step_by false First = refl
step_by false Second = refl

pub row_size : (s : Shape) → s.width * step_of (kind_of s) ≡ row_bytes s
row_size s = ap (λ (k : ℕ). s.width * k) (step_by (leb s.depth 8) s.layout) ∙ sym (mul_assoc s.width (components s.layout) (sample_bytes s.depth))

size_by : (byte one : Bool) → cond byte 1 2 ≡ size_of (kind_by byte one)
size_by true true = refl
size_by true false = refl
size_by false true = refl
size_by false false = refl

pub copy_size : (s : Shape) → s.width * sample_bytes s.depth ≡ s.width * size_of (kind_of s)
copy_size s = ap (λ (k : ℕ). s.width * k) (size_by (leb s.depth 8) (alone s.layout))

pub length_word : (depth word : ℕ) → length (word_bytes depth word) ≡ sample_bytes depth
length_word depth word = go (leb depth 8)
  where
    go : (b : Bool) → length (cond b (word ∷ []) (word % 256 ∷ word / 256 ∷ [])) ≡ cond b 1 2
    go true = refl
    go false = refl

pub length_copied : (bytes : List ℕ) (s : Shape) (y : ℕ) → length (copied_row bytes s y) ≡ s.width * sample_bytes s.depth
unfolding copied_row
length_copied bytes s y = length_laid _ (sample_bytes s.depth) (λ x. length_word s.depth (word_of bytes s x y)) s.width

-- ---- what stands in them
module _ (bytes : List ℕ) (start width x : ℕ) (l : x < width) where
  -- the byte at place i of a row of n bytes is the plane's at j
  there : (n i : ℕ) {j : ℕ} → i < n → start + i ≡ j → get_or (take n (drop start bytes)) i 0 ≡ get_or bytes j 0
  there n i h e = part_at bytes start n i 0 h ∙ ap (λ (k : ℕ). get_or bytes k 0) e

  byte_there :
      (layout : Layout) (right : ℕ) →
      let kind = kind_by true (alone layout) in
      copy_in kind (take (width * step_of kind) (drop start bytes)) (component layout) right x
      ≡ get_or bytes (start + (x * components layout + component layout) * 1) 0 ∷ []
  byte_there Planar right = ap (λ (b : ℕ). b ∷ []) (there (width * 1) x (omega arith) (omega arith))
  byte_there Luma right = ap (λ (b : ℕ). b ∷ []) (there (width * 1) x (omega arith) (omega arith))
  byte_there First right = ap (λ (b : ℕ). b ∷ []) (there (width * 2) (x * 2 + 0) (omega arith) (omega arith))
  byte_there Second right = ap (λ (b : ℕ). b ∷ []) (there (width * 2) (x * 2 + 1) (omega arith) (omega arith))

  -- two bytes at place i are the plane's at j
  two_there :
      (n i right : ℕ) {j : ℕ} → i + 1 < n → start + i ≡ j → pair_of (take n (drop start bytes)) i right ≡ pair_of bytes j right
  two_there n i right {j} h e =
      ap₂ (λ (low high : ℕ). (low + 256 * high) / 2 ^ right % 256 ∷ (low + 256 * high) / 2 ^ right / 256 ∷ [])
      (there n i (omega arith) e) (there n (i + 1) h (omega arith))

  pair_there :
      (layout : Layout) (right : ℕ) →
      let kind = kind_by false (alone layout) in
      copy_in kind (take (width * step_of kind) (drop start bytes)) (component layout) right x
      ≡ pair_of bytes (start + (x * components layout + component layout) * 2) right
  pair_there Planar right = two_there (width * 2) ((x * 1 + 0) * 2) right (omega arith) (omega arith)
  pair_there Luma right = two_there (width * 2) ((x * 1 + 0) * 2) right (omega arith) (omega arith)
  pair_there First right = two_there (width * 4) ((x * 2 + 0) * 2) right (omega arith) (omega arith)
  pair_there Second right = two_there (width * 4) ((x * 2 + 1) * 2) right (omega arith) (omega arith)

-- column x of row y, copied by its kind
column_copied :
    (bytes : List ℕ) (s : Shape) (x y : ℕ) → x < s.width →
    copy_in (kind_of s) (take (s.width * step_of (kind_of s)) (drop (y * s.stride) bytes)) (component s.layout) (shift s.layout s.depth) x
    ≡ word_bytes s.depth (word_of bytes s x y)
column_copied bytes s x y l = go (leb s.depth 8) refl
  where
    go :
        (b : Bool) → leb s.depth 8 ≡ b →
        copy_in (kind_of s) (take (s.width * step_of (kind_of s)) (drop (y * s.stride) bytes)) (component s.layout) (shift s.layout s.depth) x
        ≡ word_bytes s.depth (word_of bytes s x y)
    go true e =
        let stands = no_shift s.layout s.depth (lt-leb 9 s.depth (omega (arith, leb-true s.depth 8 e))) in
        rw (e, stands, div-one) (byte_there bytes (y * s.stride) s.width x l s.layout 0)
    go false e = rw e (pair_there bytes (y * s.stride) s.width x l s.layout (shift s.layout s.depth))

-- ---- rows as they are made: by kind, from a part of the plane
abbrev pub row_made : Kind → List ℕ → ℕ → ℕ → ℕ → ℕ → ℕ → ℕ → List ℕ
row_made kind bytes width stride n lane right y = laid width (copy_in kind (take n (drop (y * stride) bytes)) lane right)

length_column : (kind : Kind) (row : List ℕ) (lane right x : ℕ) → length (copy_in kind row lane right x) ≡ size_of kind
length_column Byte row lane right x = refl
length_column EverySecondByte row lane right x = refl
length_column Pair row lane right x = refl
length_column EverySecondPair row lane right x = refl

pub length_made :
    (kind : Kind) (bytes : List ℕ) (width stride n lane right y : ℕ) → length (row_made kind bytes width stride n lane right y) ≡ width * size_of kind
length_made kind bytes width stride n lane right y =
    length_laid _ (size_of kind) (λ x. length_column kind (take n (drop (y * stride) bytes)) lane right x) width

-- they are the rows that the definition asks for
pub row_copied :
    (bytes : List ℕ) (s : Shape) (y : ℕ) {kind : Kind} {n lane right : ℕ} →
    kind ≡ kind_of s → n ≡ s.width * step_of kind → lane ≡ component s.layout → right ≡ shift s.layout s.depth →
    row_made kind bytes s.width s.stride n lane right y ≡ copied_row bytes s y
unfolding copied_row
row_copied bytes s y {kind} known long a r =
    (λ i. row_made kind bytes s.width s.stride (long i) (a i) (r i) y)
    ∙ (λ i. row_made (known i) bytes s.width s.stride (s.width * step_of (known i)) (component s.layout) (shift s.layout s.depth) y)
    ∙ same_laid s.width _ _ (λ x l. column_copied bytes s x y l)

-- ---- a loop that copies row after row, of a plane that can be copied
module _ {s : Shape} (plane out : List ℕ) (ready : PlaneReady s (length plane) (length out)) {kind : Kind} {width height step size : ℕ}
    (known : kind ≡ kind_of s) (columns : width ≡ s.width) (all : height ≡ s.height) (apart : step ≡ step_of kind)
    (packed : size ≡ s.width * sample_bytes s.depth) where
  kept : width * size_of kind ≡ size
  kept = ap₂ (λ (n : ℕ) (k : Kind). n * size_of k) columns known ∙ sym (copy_size s) ∙ sym packed

  taken : width * step ≡ row_bytes s
  taken = ap₂ (λ (n k : ℕ). n * k) columns apart ∙ ap (λ (k : Kind). s.width * step_of k) known ∙ row_size s

  pub row_room : (y : ℕ) → y < height → y * size + size ≤ length out
  row_room y l = row_within y height size (length out) l (rw (all, packed) ready.roomy)

  pub row_ends : (y : ℕ) → y < height → y * s.stride + width * step ≤ length plane
  row_ends y l = strided_within s.stride s.height (width * step) (length plane) y (rw taken ready.long) (omega (arith, all))

  pub row_ready :
      (new : List ℕ) {row : List ℕ} (y : ℕ) →
      y < height → length new ≡ length out → row ≡ take (width * step) (drop (y * s.stride) plane) →
      RowRoom kind width (take (y * size + size - y * size) (drop (y * size) new)) row
  row_ready new y l long e = record {
    source = ap length e ∙ part_length plane (y * s.stride) _ (row_ends y l) ∙ ap (λ (k : ℕ). width * k) apart;
    target = length_part (y * size) size new (omega (arith, row_room y l, long)) ∙ sym kept;
  }

  module _ (lane right : ℕ) where
    wide : (y : ℕ) → length (row_made kind plane width s.stride (width * step) lane right y) ≡ size
    wide y = length_made kind plane width s.stride (width * step) lane right y ∙ kept

    pub no_row : Stacked (row_made kind plane width s.stride (width * step) lane right) size height out out 0
    no_row = stack_starts wide

    pub one_row :
        {new part row : List ℕ} (y : ℕ) →
        Stacked (row_made kind plane width s.stride (width * step) lane right) size height out new y → y < height →
        row ≡ take (width * step) (drop (y * s.stride) plane) → part ≡ laid width (copy_in kind row lane right) →
        Stacked (row_made kind plane width s.stride (width * step) lane right) size height out (take (y * size) new ++ (part ++ drop (y * size + size - y * size) (drop (y * size) new))) (y + 1)
    one_row y made l e f = stacks wide made l (rw (all, packed) ready.roomy) refl (f ∙ ap (λ (row : List ℕ). laid width (copy_in kind row lane right)) e)

    pub all_rows :
        {new : List ℕ} {y : ℕ} →
        lane ≡ component s.layout → right ≡ shift s.layout s.depth →
        Stacked (row_made kind plane width s.stride (width * step) lane right) size height out new y → height ≤ y →
        new ≡ over (copied_of plane s) out
    unfolding copied_of
    all_rows a r made l =
        stack_ends wide made l
        ∙ (λ i. over (laid (all i) (row_made kind plane (columns i) s.stride (columns i * apart i) lane right)) out)
        ∙ ap (λ (rows : List ℕ). over rows out) (same_laid s.height _ _ (λ y l. row_copied plane s y known refl a r))
