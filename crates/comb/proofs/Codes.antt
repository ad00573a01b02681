-- What a call that gets 0 has passed, and whose codes its rows have.
use Prim.Native.Nat.{ℕ, ◌+◌, ◌-◌, ◌*◌, ◌/◌, ◌^◌, ◌≤◌, ◌<◌, min}
use mathlib.Core.Path.{◌≡◌, refl, sym, ap, ap₂, ◌∙◌}
use mathlib.Core.Bool.{Bool, true, false, cond, ◌&&◌, and-eq-true_iff}
use mathlib.Core.List.{List, [], ◌∷◌}
use native.Mathlib.Nat.{mul_assoc, suc-mul, div-one}
use native.Mathlib.Omega.{arith}
use borrow.Author.Tests.{leb-true, ltb-false}
use lib.Dec.{leb, ltb, lit<}
use lib.ListN.{get_or}
use lib.Seq.{get_or-drop}
use Rattle.laws.specs.Refusal.{lowest}
use Rattle.laws.proofs.Refusal.{first_passes, rest_passes}
use Rattle.plane.specs.Plane.{good_shape, plane_bytes, unshifted, full_code, code_of}
use Rattle.plane.specs.Claims.{AllBytes}
use Rattle.plane.proofs.Full.{full_short, full_long}
use Rattle.comb.specs.Comb.{comb_of, plane_comb, green_at, rgba_comb}
use Rattle.comb.specs.Answer.{comb_no, rgba_no}
use Rattle.comb.specs.Rows.{kind_of, size_of, codes_of}
use Rattle.comb.specs.declared.Kind.{Kind}
use Rattle.comb.specs.declared.Kind.TheVariants.{Byte, Pair, Cut, Green}

-- ---- a call that gets 0
passed : (shape long : Bool) → lowest ((4, shape) ∷ (6, long) ∷ []) ≡ 0 → (shape ≡ true) × (long ≡ true)
passed shape long e = (first_passes 4 shape _ (lit< tt) e, first_passes 6 long _ (lit< tt) (rest_passes 4 shape _ (lit< tt) e))

left : (a b : Bool) → (a && b) ≡ true → a ≡ true
left a b h = ((and-eq-true_iff a b).0 h).0

right : (a b : Bool) → (a && b) ≡ true → b ≡ true
right a b h = ((and-eq-true_iff a b).0 h).1

-- both calls test width and height first
module _ (width height : ℕ) (h : (leb 1 width && leb width 8192 && leb 1 height && leb height 4352) ≡ true) where
  narrow : width ≤ 8192
  narrow = leb-true width 8192 (right (leb 1 width) (leb width 8192) (left _ _ (left _ _ h)))

  tall : 1 ≤ height
  tall = leb-true 1 height (right (leb 1 width && leb width 8192) (leb 1 height) (left _ _ h))

-- ---- `comb`: a row is narrow, and the last stands within the plane
size_of_sample : (width full : ℕ) (byte low : Bool) → width * 1 * cond byte 1 2 ≡ width * size_of (cond byte Byte (cond low (Cut full) Pair))
size_of_sample width full true low = omega arith
size_of_sample width full false true = omega arith
size_of_sample width full false false = omega arith

module _ (width height depth stride bytes : ℕ) (done : 0 ≡ comb_no width height depth stride bytes) where
  pub plane_narrow : width ≤ 8192
  unfolding good_shape
  plane_narrow = narrow width height (left _ _ (left _ _ (left _ _ (left _ _ (passed _ _ (sym done)).0))))

  pub plane_long : {kind : Kind} → kind ≡ kind_of depth → (height - 1) * stride + width * size_of kind ≤ bytes
  plane_long k =
      let long : plane_bytes (unshifted width height depth stride) ≤ bytes = leb-true _ _ (passed _ _ (sym done)).1 in
      rw k (omega (arith, size_of_sample width (full_code depth) (leb depth 8) (ltb depth 16)))

-- ---- `comb_rgba`: the same
rows_of : (height row : ℕ) → 1 ≤ height → (height - 1) * row + row ≡ height * row
rows_of height row h = sym (suc-mul (height - 1) row) ∙ ap (λ (n : ℕ). n * row) (omega arith)

module _ (width height bytes : ℕ) (done : 0 ≡ rgba_no width height bytes) where
  pub rgba_narrow : width ≤ 8192
  rgba_narrow = narrow width height (passed _ _ (sym done)).0

  pub rgba_long : (height - 1) * (width * 4) + width * 4 ≤ bytes
  rgba_long =
      let long : height * width * 4 ≤ bytes = leb-true _ _ (passed _ _ (sym done)).1 in
      omega (arith, rows_of height (width * 4) (tall width height (passed _ _ (sym done)).0), mul_assoc height width 4)

-- ---- codes, of every column and row: past the end both sides are 0
-- rows of one or two bytes a sample, by their bytes
code_by_size :
    (byte low : Bool) (full : ℕ) (bytes : List ℕ) (stride x y : ℕ) →
    let start = y * stride + (x * 1 + 0) * cond byte 1 2 in
    let pair = get_or bytes start 0 + 256 * get_or bytes (start + 1) 0 in
    codes_of (cond byte Byte (cond low (Cut full) Pair)) bytes stride x y ≡ cond byte (get_or bytes start 0) (cond low (min pair full) pair)
code_by_size true low full bytes stride x y = get_or-drop (y * stride) bytes x 0 ∙ ap (λ (i : ℕ). get_or bytes i 0) (omega arith)
code_by_size false true full bytes stride x y = ap₂ (λ (low high : ℕ). min (low + 256 * high) full)
    (get_or-drop (y * stride) bytes (x * 2) 0 ∙ ap (λ (i : ℕ). get_or bytes i 0) (omega arith))
    (get_or-drop (y * stride) bytes (x * 2 + 1) 0 ∙ ap (λ (i : ℕ). get_or bytes i 0) (omega arith))
code_by_size false false full bytes stride x y = ap₂ (λ (low high : ℕ). low + 256 * high)
    (get_or-drop (y * stride) bytes (x * 2) 0 ∙ ap (λ (i : ℕ). get_or bytes i 0) (omega arith))
    (get_or-drop (y * stride) bytes (x * 2 + 1) 0 ∙ ap (λ (i : ℕ). get_or bytes i 0) (omega arith))

-- a byte is never above the largest code, nor is a pair of 16 bits, so that only what lies between is cut
cut_between :
    (depth low high : ℕ) → low < 256 → high < 256 →
    let pair = low + 256 * high in
    cond (leb depth 8) low (cond (ltb depth 16) (min pair (full_code depth)) pair) ≡ min (cond (leb depth 8) low pair / 2 ^ 0) (full_code depth)
cut_between depth low high l h = go (leb depth 8) refl (ltb depth 16) refl
  where
    go :
        (byte : Bool) → leb depth 8 ≡ byte → (short : Bool) → ltb depth 16 ≡ short →
        let pair = low + 256 * high in
        cond byte low (cond short (min pair (full_code depth)) pair) ≡ min (cond byte low pair / 2 ^ 0) (full_code depth)
    go true e short f = rw (div-one low) (omega (arith, full_short depth (leb-true depth 8 e)))
    go false e true f = rw (div-one (low + 256 * high)) refl
    go false e false f = rw (div-one (low + 256 * high)) (omega (arith, full_long depth (ltb-false depth 16 f)))

plane_code :
    (bytes : List ℕ) → AllBytes bytes → (width height depth stride x y : ℕ) →
    codes_of (kind_of depth) bytes stride x y ≡ code_of bytes (unshifted width height depth stride) x y
unfolding code_of
plane_code bytes all width height depth stride x y =
    code_by_size (leb depth 8) (ltb depth 16) (full_code depth) bytes stride x y ∙ cut_between depth _ _ (all _) (all _)

pub plane_total :
    (bytes : List ℕ) → AllBytes bytes → (width height depth stride : ℕ) {kind : Kind} {total : ℕ} →
    kind ≡ kind_of depth → total ≡ comb_of (codes_of kind bytes stride) width height → total ≡ plane_comb bytes width height depth stride
unfolding plane_comb
plane_total bytes all width height depth stride k e =
    e
    ∙ (λ i. comb_of (codes_of (k i) bytes stride) width height)
    ∙ (λ i. comb_of (λ x y. plane_code bytes all width height depth stride x y i) width height)

-- rows of four bytes a pixel have the greens
green_code : (rgba : List ℕ) (width x y : ℕ) → codes_of Green rgba (width * 4) x y ≡ green_at rgba width x y
green_code rgba width x y =
    get_or-drop (y * (width * 4)) rgba (x * 4 + 1) 0 ∙ ap (λ (i : ℕ). get_or rgba i 0) (omega (arith, mul_assoc y width 4))

pub rgba_total :
    (rgba : List ℕ) (width height : ℕ) {total : ℕ} → total ≡ comb_of (codes_of Green rgba (width * 4)) width height → total ≡ rgba_comb rgba width height
unfolding rgba_comb
rgba_total rgba width height e = e ∙ (λ i. comb_of (λ x y. green_code rgba width x y i) width height)
