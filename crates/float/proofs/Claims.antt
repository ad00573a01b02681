-- The claims of `specs/Claims.antt`, most of them laws under another name.
use mathlib.Core.Path.{◌≡◌, refl}
use mathlib.Core.Bool.{false, cond}
use lib.Ieee.{Float, nan, inf, fin, lt, is_nan}
use Rattle.float.specs.Float.{min_of, max_of, clamp_of}
use Rattle.float.specs.Claims.{ClampedLiesInUnit, ClampLeavesInside, MinOfNan, MaxOfNan, AbsNotNegative, EndsInOrder}
use Rattle.float.proofs.Range.{unit_clamp, not_negative_abs}
use Rattle.float.proofs.Ends as ends

pub clamped_lies_in_unit : ClampedLiesInUnit
clamped_lies_in_unit = unit_clamp

pub clamp_leaves_inside : ClampLeavesInside
unfolding clamp_of
clamp_leaves_inside x low high g h = simp (g, h)

-- no test with a NaN is true, so which of the two comes first does not matter
not_below_nan : (x : Float) → lt x nan ≡ false
unfolding lt
not_below_nan nan = refl
not_below_nan (inf s) = refl
not_below_nan (fin s m e) = refl

other_of_nan : (x : Float) → cond (is_nan x) nan x ≡ x
unfolding is_nan
other_of_nan nan = refl
other_of_nan (inf s) = refl
other_of_nan (fin s m e) = refl

pub min_of_nan : MinOfNan
unfolding min_of lt is_nan
min_of_nan x = (simp not_below_nan, other_of_nan x)

pub max_of_nan : MaxOfNan
unfolding max_of lt is_nan
max_of_nan x = (refl, simp not_below_nan (other_of_nan x))

pub abs_not_negative : AbsNotNegative
abs_not_negative = not_negative_abs

pub ends_in_order : EndsInOrder
ends_in_order = ends.ends_in_order
