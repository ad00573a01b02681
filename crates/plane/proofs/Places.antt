-- A sample by its layout and depth: how many bytes it has, that it stands within its plane, and where it is not shifted.
use mathlib.Core.Path.{◌≡◌, refl}
use mathlib.Core.Bool.{false}
use Prim.Native.Nat.{ℕ, ◌+◌, ◌-◌, ◌*◌, ◌≤◌, ◌<◌}
use native.Mathlib.Nat.{suc-mul, mul-le-mul_right}
use native.Mathlib.Numerals.{add-one}
use native.Mathlib.Omega.{arith}
use lib.Dec.{leb, lit<}
use borrow.Author.Tests.{le-leb, lt-leb}
use Rattle.plane.specs.declared.Shape.{Shape}
use Rattle.plane.specs.declared.Layout.{Layout}
use Rattle.plane.specs.declared.Layout.TheVariants.{Planar, Luma, First, Second}
use Rattle.plane.specs.Plane.{components, component, sample_bytes, row_bytes, plane_bytes, start_of, shift}

-- one byte, or two
pub width_short : (depth : ℕ) → depth ≤ 8 → sample_bytes depth ≡ 1
width_short depth h = simp (le-leb depth 8 h)

pub width_long : (depth : ℕ) → 8 < depth → sample_bytes depth ≡ 2
width_long depth h = simp (lt-leb depth 8 h)

pub no_shift : (layout : Layout) (depth : ℕ) → leb 9 depth ≡ false → shift layout depth ≡ 0
no_shift Planar depth h = refl
no_shift Luma depth h = simp h
no_shift First depth h = simp h
no_shift Second depth h = simp h

pub component_low : (layout : Layout) → component layout + 1 ≤ components layout
component_low Planar = lit< tt
component_low Luma = lit< tt
component_low First = lit< tt
component_low Second = lit< tt

step_mul : (n w : ℕ) → (n + 1) * w ≡ n * w + w
step_mul n w = rw add-one (suc-mul n w)

module _ (s : Shape) (x y : ℕ) (inner : x < s.width) (row : y < s.height) where
  in_row : (x * components s.layout + component s.layout) * sample_bytes s.depth + sample_bytes s.depth ≤ row_bytes s
  in_row =
      let n = components s.layout in
      let k = component s.layout in
      let b = sample_bytes s.depth in
      let m : (x + 1) * n ≤ s.width * n = mul-le-mul_right n (omega arith) in
      let c : x * n + k + 1 ≤ s.width * n = omega (arith, m, step_mul x n, component_low s.layout) in
      let d : (x * n + k + 1) * b ≤ s.width * n * b = mul-le-mul_right b c in
      omega (arith, d, step_mul (x * n + k) b)

  pub in_plane : (bytes : ℕ) → plane_bytes s ≤ bytes → start_of s x y + sample_bytes s.depth ≤ bytes
  in_plane bytes long =
      let m : y * s.stride ≤ (s.height - 1) * s.stride = mul-le-mul_right s.stride (omega arith) in
      let r = in_row in
      omega (arith, m, r, long)
