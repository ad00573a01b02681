-- Where the number is 0 both coordinates are inside a plane within the bounds, so that they fit their places and the cut shape is the shape
-- as given.
use Prim.Native.Nat.{ℕ, ◌≤◌, ◌<◌}
use mathlib.Core.Path.{◌≡◌, sym, subst, ◌∙◌}
use mathlib.Core.Bool.{true, ◌&&◌}
use native.Mathlib.Nat.{lt_of_lt_of_le, lt_trans}
use lib.Dec.{T, leb, lit<}
use lib.IntN.{ℤ, nat_abs}
use lib.Signed.{non_neg}
use lib.ListN.{length}
use mir.Syntax.{w16}
use mir.Val.{Fits}
use mir.Facts.{to_z-of_z}
use Rattle.laws.proofs.Bools.{halves}
use Rattle.laws.proofs.Refusal.{first_passes, rest_passes, written_done}
use Rattle.plane.specs.Plane.{good_shape, code_of}
use Rattle.plane.specs.Coordinates.{inside}
use Rattle.plane.proofs.Bounds.{good_within}
use Rattle.plane.proofs.Coordinates.{inside_nonneg, inside_below}
use Rattle.numbers.specs.declared.PlaneNumbers.{PlaneNumbers}
use Rattle.numbers.specs.Numbers.{shape_named}
use Rattle.numbers.proofs.Cut.{cut_same}
use Rattle.desk.specs.Planes.{code_no}
use Rattle.desk.proofs.Cut.{read_good}
use Rattle.desk.proofs.planes.desk_code.Goals as goal

-- a coordinate inside a plane within the bounds, as the machine holds it, fits the narrow type
narrow : (size most : ℕ) (x : ℤ) {z : ℤ} → size ≤ most → most < 65536 → inside size x ≡ true → z ≡ x → T (non_neg z) × Fits w16 (nat_abs z)
narrow size most x bounded small h e =
    subst (λ (z : ℤ). T (non_neg z) × Fits w16 (nat_abs z)) (sym e)
    (inside_nonneg size x h, record { fits = lt_trans (lt_of_lt_of_le (inside_below size x h) bounded) small })

-- what a call that gets 0 has passed
record Passed (n : PlaneNumbers) (bytes : ℕ) (x y : ℤ) : Type 0 where
  done : 0 ≡ code_no n bytes x y
  good : good_shape (shape_named n) ≡ true
  column : inside n.width x ≡ true
  row : inside n.height y ≡ true

passed : (n : PlaneNumbers) (bytes : ℕ) (x y : ℤ) {x' y' : ℤ} → x' ≡ x → y' ≡ y → 0 ≡ code_no n bytes x' y' → Passed n bytes x y
passed n bytes x y p q zero =
    let e : 0 ≡ code_no n bytes x y = zero ∙ (λ i. code_no n bytes (p i) (q i)) in
    let inner = halves (inside n.width x) (inside n.height y) (first_passes 3 _ _ (lit< tt) (rest_passes 3 (leb n.layout 3) _ (lit< tt) (sym e))) in
    record { done = e; good = read_good (leb n.layout 3) (inside n.width x && inside n.height y) (shape_named n) bytes (sym e); column = inner.0; row = inner.1 }

pub overflow_cast-x : goal.overflow_cast-x
overflow_cast-x c =
    let a = c.args in
    let p = passed a.shape (length a.plane.now) a.x a.y (to_z-of_z c.ranges.x) (to_z-of_z c.ranges.y) c.in-Ok.ensures in
    narrow a.shape.width 8192 a.x (good_within _ p.good).width_most (lit< tt) p.column (to_z-of_z c.ranges.x)

pub overflow_cast-y : goal.overflow_cast-y
overflow_cast-y c =
    let a = c.args in
    let p = passed a.shape (length a.plane.now) a.x a.y (to_z-of_z c.ranges.x) (to_z-of_z c.ranges.y) c.in-Ok.ensures in
    narrow a.shape.height 4352 a.y (good_within _ p.good).height_most (lit< tt) p.row (to_z-of_z c.ranges.y)

pub returns-in-Ok : goal.returns-in-Ok
returns-in-Ok c =
    let a = c.args in
    let p = passed a.shape (length a.plane.now) a.x a.y (to_z-of_z c.ranges.x) (to_z-of_z c.ranges.y) c.in-Ok.ensures in
    let held = c.shape_named.ensures ∙ cut_same (shape_named a.shape) p.good in
    record {
      value = p.done;
      code_after =
          written_done _ _ p.done
          (c.code_at-found.ensures ∙ (λ i. code_of a.plane.now (held i) (nat_abs (to_z-of_z c.ranges.x i)) (nat_abs (to_z-of_z c.ranges.y i))));
    }
