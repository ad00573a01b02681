-- A picture that may come has some bytes, so that its turn uses bytes up.
use Prim.Native.Nat.{ℕ, ◌*◌, ◌≤◌, ◌<◌}
use native.Mathlib.Nat.{le_trans, mul-le-mul}
use native.Mathlib.Omega.{arith}
use mathlib.Core.Path.{◌≡◌, sym}
use mathlib.Core.Bool.{Bool, true, false, cond, ◌||◌, true≢false}
use mathlib.Core.List.{List}
use Rattle.std.specs.Prelude.{Option, Some, None}
use Rattle.std.specs.Option.{is_some}
use lib.Dec.{eqb, leb}
use borrow.Author.Tests.{ne_eqb}
use Rattle.laws.specs.Refusal.{lowest, rising}
use Rattle.laws.proofs.Refusal.{all_pass}
use Rattle.plane.specs.declared.Shape.{Shape}
use Rattle.plane.specs.declared.Layout.{Layout}
use Rattle.plane.specs.declared.Layout.TheVariants.{Planar, Luma, First, Second}
use Rattle.plane.specs.Plane.{components, row_bytes, good_shape, grid_shape}
use Rattle.plane.proofs.Bounds.{good_within}
use Rattle.reel.specs.declared.Pictured.{Pictured}
use Rattle.reel.specs.Reel.{shape_in, shape_tests, pictured_in, picture_bytes, picture_count_tests}

abbrev pub Fine : Option Pictured → Type 0
Fine p = is_some p ≡ true → 1 ≤ picture_bytes p

pub none_fine : Fine None
none_fine given = absurd (true≢false (sym given))

-- ---- a shape within the bounds
pub some_components : (l : Layout) → 1 ≤ components l
some_components Planar = omega arith
some_components Luma = omega arith
some_components First = omega arith
some_components Second = omega arith

pub some_bytes : (b : Bool) → 1 ≤ cond b 1 2
some_bytes true = omega arith
some_bytes false = omega arith

good_fine : (s : Shape) → good_shape s ≡ true → 1 ≤ s.height * s.stride
good_fine s e =
    let w = good_within s e in
    let lane : 1 * 1 ≤ s.width * components s.layout = mul-le-mul w.width_least (some_components s.layout) in
    let row : 1 * 1 ≤ row_bytes s = mul-le-mul lane (some_bytes (leb s.depth 8)) in
    let all : 1 * 1 ≤ s.height * s.stride = mul-le-mul w.height_least (le_trans row w.row_fits) in
    all

pub given_fine : (u : List ℕ) → lowest (shape_tests u) ≡ 0 → Fine (Some (pictured_in u))
unfolding rising
given_fine u e given = good_fine (grid_shape (shape_in u)) (all_pass (shape_tests u) tt e).1.0

-- ---- a count of pictures that is not refused
pub given_if : (b given : Bool) → b ≡ false → (b || given) ≡ true → given ≡ true
given_if true given e h = absurd (true≢false e)
given_if false given e h = h

pub some_picture : (p : Option Pictured) (n : ℕ) → Fine p → lowest (picture_count_tests p n) ≡ 0 → 0 < n → 1 ≤ picture_bytes p
unfolding rising
some_picture p n fine e some =
    fine (given_if (eqb n 0) (is_some p) (ne_eqb n 0 (λ z. omega arith)) (all_pass (picture_count_tests p n) tt e).0)
