-- Laws of rows: where the rows of a picture stand, and what is kept of their samples.
use Prim.Native.Nat.{ℕ, suc, ◌+◌, ◌-◌, ◌*◌, ◌/◌, ◌%◌, ◌^◌, ◌≤◌, ◌<◌, min, max}
use mathlib.Core.Path.{◌≡◌, refl, sym, ap, ap₂, ◌∙◌}
use mathlib.Core.Bool.{Bool, true, false}
use mathlib.Core.List.{List}
use native.Mathlib.Nat.{le_trans, le_of_eq, suc-mul, mul-le-mul_right, div-one, mod-eq_of_lt, div-eq_of_lt-le, le-div_iff_mul-le}
use native.Mathlib.Omega.{arith}
use lib.ListN.{length, take, drop, get_or}
use lib.Dec.{leb}
use lib.Pow.{pow_pos, pow_mono, pow-add, shr_lt}
use borrow.Author.Tests.{le-leb, lt-leb, leb-true, leb-false}
use Rattle.laws.specs.Rows.{listed}
use Rattle.laws.proofs.Lists.{length_listed, same_listed, listed_at, part_length, part_at}
use Rattle.plane.specs.declared.Shape.{Shape}
use Rattle.plane.specs.declared.Grid.{Grid}
use Rattle.plane.specs.Plane.{row_bytes, plane_bytes, grid_shape, full_code, code_of}
use Rattle.plane.specs.Claims.{AllBytes}
use Rattle.plane.proofs.Full.{full_least, full_short}
use Rattle.plane.proofs.Claims.{full_is_largest}
use Rattle.block.specs.Block.{kept_of}
use Rattle.block.specs.Rows.{KeptRow, pair_kept}

-- ---- where rows stand
-- a row of a plane that has the bytes it needs ends within it
pub row_within : (s : Shape) (bytes y : ℕ) → plane_bytes s ≤ bytes → y < s.height → y * s.stride + row_bytes s ≤ bytes
row_within s bytes y long h =
    let above : y ≤ s.height - 1 = omega arith in
    omega (arith, mul-le-mul_right s.stride above)

-- row y of a frame that is packed ends before row y + 1
pub frame_within : (width height y : ℕ) → y < height → y * width + width ≤ height * width
frame_within width height y h = rw suc-mul at (mul-le-mul_right {m = suc y} {n = height} width h)

-- ---- rows of one byte a sample
module _ (g : Grid) (h : g.depth ≤ 8) where
  pub byte_row_size : row_bytes (grid_shape g) ≡ g.width
  byte_row_size = rw (le-leb g.depth 8 h) (omega arith)

  kept_byte : (bytes : List ℕ) (x y : ℕ) → AllBytes bytes → kept_of bytes (grid_shape g) x y ≡ get_or bytes (y * g.stride + x) 0
  unfolding kept_of code_of
  kept_byte bytes x y fits =
      let none : g.depth - 8 ≡ 0 = omega arith in
      let place : y * g.stride + (x * 1 + 0) * 1 ≡ y * g.stride + x = omega arith in
      rw (le-leb g.depth 8 h, none, place, full_short g.depth h) (omega (arith, fits (y * g.stride + x)))

  -- a row that is lent as a part of the plane is the kept row
  pub byte_row_kept :
      (bytes : List ℕ) (y : ℕ) {row : List ℕ} →
      AllBytes bytes → y * g.stride + g.width ≤ length bytes → row ≡ take g.width (drop (y * g.stride) bytes) → KeptRow row bytes (grid_shape g) y
  byte_row_kept bytes y fits within part = record {
    wide = ap length part ∙ part_length bytes (y * g.stride) g.width within;
    sample = λ x l.
        ap (λ (row : List ℕ). get_or row x 0) part
        ∙ part_at bytes (y * g.stride) g.width x 0 l
        ∙ sym (kept_byte bytes x y fits);
  }

-- a kept row, copied
pub row_copied :
    (row bytes : List ℕ) (s : Shape) (y : ℕ) {n : ℕ} →
    KeptRow row bytes s y → n ≡ s.width → listed n (λ x. get_or row x 0) ≡ listed s.width (λ x. kept_of bytes s x y)
row_copied row bytes s y kept e = ap (λ (n : ℕ). listed n (λ x. get_or row x 0)) e ∙ same_listed s.width _ _ kept.sample

-- a row as `keep_row` leaves it
pub row_listed :
    (bytes : List ℕ) (s : Shape) (y : ℕ) {row : List ℕ} → row ≡ listed s.width (λ x. kept_of bytes s x y) → KeptRow row bytes s y
row_listed bytes s y e = record {
  wide = ap length e ∙ length_listed s.width (λ x. kept_of bytes s x y);
  sample = λ x l. ap (λ (row : List ℕ). get_or row x 0) e ∙ listed_at s.width (λ x. kept_of bytes s x y) x 0 l;
}

-- ---- upper bits
-- a code of any depth, shifted down to 8 bits, has no more
pub upper_fits : (code depth : ℕ) → code ≤ full_code depth → code / 2 ^ (depth - 8) < 256
upper_fits code depth h =
    let far : max 8 (min depth 16) ≤ 8 + (depth - 8) = omega arith in
    shr_lt 8 (depth - 8) (omega (arith, pow_mono far, full_least depth))

-- the upper 8 bits of the largest code are all set
pub upper_full : (depth : ℕ) → 8 ≤ depth → (2 ^ depth - 1) / 2 ^ (depth - 8) ≡ 255
upper_full depth h =
    let parts : depth ≡ 8 + (depth - 8) = omega arith in
    let whole : 2 ^ depth ≡ 256 * 2 ^ (depth - 8) = ap (λ (k : ℕ). 2 ^ k) parts ∙ pow-add 2 8 (depth - 8) in
    div-eq_of_lt-le (2 ^ (depth - 8)) (omega (arith, whole, pow_pos (depth - 8))) (omega (arith, whole, pow_pos (depth - 8)))

-- Cut at the largest code and shifted down to 8 bits, or shifted and cut at 255: of a word within the depth,
at_most : (n : ℕ) → n < 256 → n ≡ min n 255
at_most n h = omega arith

cut_within :
    (word depth : ℕ) → word ≤ full_code depth → min (word / 2 ^ 0) (full_code depth) / 2 ^ (depth - 8) % 256 ≡ min (word / 2 ^ (depth - 8)) 255
cut_within word depth h =
    let fits = upper_fits word depth h in
    let uncut : min (word / 2 ^ 0) (full_code depth) ≡ word = rw (div-one word) (omega arith) in
    ap (λ (n : ℕ). n / 2 ^ (depth - 8) % 256) uncut ∙ mod-eq_of_lt fits ∙ at_most _ fits

-- and of one above it.
at_least : (n : ℕ) → 255 ≤ n → 255 ≡ min n 255
at_least n h = omega arith

cut_above :
    (word depth : ℕ) → 8 ≤ depth → depth ≤ 16 → full_code depth ≤ word →
    min (word / 2 ^ 0) (full_code depth) / 2 ^ (depth - 8) % 256 ≡ min (word / 2 ^ (depth - 8)) 255
cut_above word depth low high h =
    let full = full_is_largest depth low high in
    let cut : min (word / 2 ^ 0) (full_code depth) ≡ 2 ^ depth - 1 = rw (div-one word) (omega (arith, full)) in
    let upper : 255 ≤ word / 2 ^ (depth - 8) =
    (le-div_iff_mul-le (pow_pos (depth - 8))).1 (le_trans ((le-div_iff_mul-le (pow_pos (depth - 8))).0 (le_of_eq (sym (upper_full depth low)))) (rw full at h)) in
    ap (λ (n : ℕ). n / 2 ^ (depth - 8) % 256) cut ∙ ap (λ (n : ℕ). n % 256) (upper_full depth low) ∙ at_least _ upper

cut_behind :
    (word depth : ℕ) → 8 ≤ depth → depth ≤ 16 → min (word / 2 ^ 0) (full_code depth) / 2 ^ (depth - 8) % 256 ≡ min (word / 2 ^ (depth - 8)) 255
cut_behind word depth low high = go (leb word (full_code depth)) refl
  where
    go : (b : Bool) → leb word (full_code depth) ≡ b → min (word / 2 ^ 0) (full_code depth) / 2 ^ (depth - 8) % 256 ≡ min (word / 2 ^ (depth - 8)) 255
    go true e = cut_within word depth (leb-true word (full_code depth) e)
    go false e = cut_above word depth low high (omega (arith, leb-false word (full_code depth) e))

-- ---- rows of two bytes a sample
pub pair_row_size : (g : Grid) → 8 < g.depth → row_bytes (grid_shape g) ≡ g.width * 2
pair_row_size g h = rw (lt-leb g.depth 8 h) (omega arith)

module _ (g : Grid) (h : 8 < g.depth) (deep : g.depth ≤ 16) where
  kept_pair :
      (bytes : List ℕ) (x y : ℕ) →
      let start = y * g.stride in
      kept_of bytes (grid_shape g) x y ≡ min ((get_or bytes (start + x * 2) 0 + 256 * get_or bytes (start + (x * 2 + 1)) 0) / 2 ^ (g.depth - 8)) 255
  unfolding kept_of code_of
  kept_pair bytes x y =
      let low : y * g.stride + (x * 1 + 0) * 2 ≡ y * g.stride + x * 2 = omega arith in
      let high : y * g.stride + x * 2 + 1 ≡ y * g.stride + (x * 2 + 1) = omega arith in
      rw (lt-leb g.depth 8 h, low, high) (cut_behind _ g.depth (omega arith) deep)

  pub pairs_kept :
      (bytes : List ℕ) (y : ℕ) {n : ℕ} {row : List ℕ} →
      row ≡ take (g.width * 2) (drop (y * g.stride) bytes) → n ≡ g.width →
      listed n (pair_kept row (g.depth - 8)) ≡ listed g.width (λ x. kept_of bytes (grid_shape g) x y)
  pairs_kept bytes y {n} {row} part e =
      (λ i. listed (e i) (pair_kept (part i) (g.depth - 8)))
      ∙ same_listed g.width _ _
      (λ x l.
      ap₂ (λ (low high : ℕ). min ((low + 256 * high) / 2 ^ (g.depth - 8)) 255)
      (part_at bytes (y * g.stride) (g.width * 2) (x * 2) 0 (omega arith)) (part_at bytes (y * g.stride) (g.width * 2) (x * 2 + 1) 0 (omega arith))
      ∙ sym (kept_pair bytes x y))
