-- The claims of specs/Claims.antt.
use Prim.Native.Nat.{ℕ, ◌+◌, ◌-◌, ◌*◌}
use mathlib.Core.Path.{◌≡◌, refl, ap}
use native.Mathlib.Omega.{arith}
use Rattle.laws.specs.Refusal.{rising}
use Rattle.laws.specs.Sums.{sum_over}
use Rattle.laws.proofs.Claims.{lowest_says}
use Rattle.laws.proofs.Sums.{same_terms, sum_at_most}
use Rattle.plane.specs.Plane.{unshifted, full_code, code_of}
use Rattle.plane.proofs.Claims.{code_within_depth}
use Rattle.comb.specs.Comb.{bend_of, comb_of, plane_comb}
use Rattle.comb.specs.Answer.{comb_tests, rgba_tests}
use Rattle.comb.specs.Claims.{CombSays, RgbaSays, CombWithin, CodesSettle, NoInnerRow}
use Rattle.comb.proofs.Rows.{same_bend}
use Rattle.comb.proofs.Columns.{bend_at_most}

pub comb_says : CombSays
unfolding rising
comb_says width height depth stride bytes = lowest_says (comb_tests width height depth stride bytes) tt

pub rgba_says : RgbaSays
unfolding rising
rgba_says width height bytes = lowest_says (rgba_tests width height bytes) tt

pub comb_within : CombWithin
unfolding plane_comb comb_of
comb_within bytes width height depth stride =
    let shape = unshifted width height depth stride in
    sum_at_most (height - 2) (width * (2 * full_code depth)) _
    (λ y l.
    sum_at_most width (2 * full_code depth) _
    (λ x m.
    bend_at_most {a = code_of bytes shape x y} {b = code_of bytes shape x (y + 1)} {c = code_of bytes shape x (y + 2)} refl
    (code_within_depth bytes shape x y) (code_within_depth bytes shape x (y + 1)) (code_within_depth bytes shape x (y + 2))))

pub codes_settle : CodesSettle
unfolding plane_comb comb_of
codes_settle bytes bytes' width height depth stride same =
    same_terms (height - 2) _ _
    (λ y l.
    same_terms width _ _
    (λ x m. same_bend refl (same x y m (omega arith)) (same x (y + 1) m (omega arith)) (same x (y + 2) m (omega arith))))

pub no_inner_row : NoInnerRow
unfolding comb_of sum_over
no_inner_row code width height h =
    let none : height - 2 ≡ 0 = omega arith in
    ap (λ (rows : ℕ). sum_over rows (λ y. sum_over width (λ x. bend_of code x y))) none
