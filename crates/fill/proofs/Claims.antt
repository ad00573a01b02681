-- The claims of specs/Claims.antt.
use Prim.Native.Nat.{ℕ, ◌+◌, ◌*◌, ◌<◌}
use mathlib.Core.Path.{sym, subst, ◌∙◌}
use lib.IntN.{pos}
use lib.ListN.{get_or}
use lib.Ieee.{Float, nan}
use Rattle.laws.specs.Refusal.{rising}
use Rattle.laws.specs.Rows.{listed, laid}
use Rattle.laws.proofs.Claims.{lowest_says}
use Rattle.laws.proofs.Lists.{length_listed, listed_at, laid_at}
use Rattle.float.specs.Bounds.{Unit}
use Rattle.filter.proofs.Claims.{sample_in_unit}
use Rattle.fill.specs.Fill.{plane_tests, part_tests}
use Rattle.fill.specs.Claims.{PlaneSays, PartSays, PlaneInUnit, PartInUnit}

pub plane_says : PlaneSays
unfolding rising
plane_says making before cur after room = lowest_says (plane_tests making before cur after room) tt

pub part_says : PartSays
unfolding rising
part_says making place before cur after room = lowest_says (part_tests making place before cur after room) tt

-- ---- values
-- what holds of every value holds of rows of them
rows_in_unit :
    (value : ℕ → ℕ → Float) (width height x y : ℕ) → ((x y : ℕ) → Unit (value x y)) → x < width → y < height →
    Unit (get_or (laid height (λ y. listed width (λ x. value x y))) (y * width + x) nan)
rows_in_unit value width height x y each l m =
    subst Unit
    (sym (laid_at (λ y. listed width (λ x. value x y)) width (λ y. length_listed width (λ x. value x y)) height x y nan l m ∙ listed_at width (λ x. value x y) x nan l))
    (each x y)

pub plane_in_unit : PlaneInUnit
plane_in_unit making before cur after x y =
    rows_in_unit _ _ _ x y (λ x y. sample_in_unit making before cur after (pos x) (pos y))

pub part_in_unit : PartInUnit
part_in_unit making place before cur after x y =
    rows_in_unit _ _ _ x y (λ x y. sample_in_unit making before cur after (pos (place.left + x)) (pos (place.top + y)))
