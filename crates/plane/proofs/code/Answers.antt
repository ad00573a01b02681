use mathlib.Core.Path.{◌≡◌, sym, ap, ◌∙◌, subst}
use mathlib.Core.Bool.{true, ◌&&◌}
use Prim.Native.Nat.{ℕ, ◌<◌}
use native.Mathlib.Nat.{lt_trans}
use native.Mathlib.Omega.{arith}
use lib.Dec.{T, lit<}
use lib.IntN.{ℤ, nat_abs}
use lib.Signed.{non_neg}
use lib.ListN.{length}
use mir.Syntax.{w16}
use mir.Val.{Fits}
use mir.Facts.{to_z-of_z}
use Rattle.laws.proofs.Bools.{halves}
use Rattle.laws.specs.Refusal.{lowest}
use Rattle.laws.proofs.Refusal.{first_passes}
use Rattle.plane.specs.Answer.{read_tests}
use Rattle.plane.specs.Coordinates.{inside}
use Rattle.plane.proofs.Coordinates.{inside_nonneg, inside_below}
use Rattle.plane.proofs.code.Goals as goal

-- a coordinate inside a plane, as the machine holds it, fits the narrow type
narrow : (size : ℕ) (x : ℤ) {z : ℤ} → size < 65536 → inside size x ≡ true → z ≡ x → T (non_neg z) × Fits w16 (nat_abs z)
narrow size x small h e =
    subst (λ (z : ℤ). T (non_neg z) × Fits w16 (nat_abs z)) (sym e) (inside_nonneg size x h, record { fits = lt_trans (inside_below size x h) small })

pub overflow_cast-x : goal.overflow_cast-x
overflow_cast-x c =
    let inner = halves _ _ (first_passes 3 _ _ (lit< tt) (sym c.in_ok-readable.ensures)) in
    narrow c.args.s.width c.args.x (omega arith) (sym (ap (inside c.args.s.width) (to_z-of_z c.ranges.x)) ∙ sym c.is_inside.ensures ∙ inner.0) (to_z-of_z c.ranges.x)

pub overflow_cast-y : goal.overflow_cast-y
overflow_cast-y c =
    let inner = halves _ _ (first_passes 3 _ _ (lit< tt) (sym c.in_ok-readable.ensures)) in
    narrow c.args.s.height c.args.y (omega arith) (sym (ap (inside c.args.s.height) (to_z-of_z c.ranges.y)) ∙ sym c.is_inside-2.ensures ∙ inner.1) (to_z-of_z c.ranges.y)
