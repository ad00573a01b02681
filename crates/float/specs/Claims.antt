-- What the definitions of `specs/Float.antt` come to. `proofs/Claims.antt` proves each.
use Rattle.std.specs.Prelude.{◌≡◌, false, T, Float}
use Rattle.std.specs.Float.{nan, binary32}
use Rattle.std.specs.Float.Ieee.{add, sub, lt, le}
use Rattle.std.specs.Float.Ieee.Scale.{finite}
use Rattle.float.specs.Float.{zero_f, one_f, abs_of, min_of, max_of, clamp_of}
use Rattle.float.specs.Bounds.{NotNegative, Unit}

-- A finite value brought between 0 and 1 lies there.
abbrev pub ClampedLiesInUnit : Type 0
ClampedLiesInUnit = (x : Float) → T (finite x) → Unit (clamp_of x zero_f one_f)

-- What is not strictly outside the ends stays as it is: a NaN too, and a zero of either sign.
abbrev pub ClampLeavesInside : Type 0
ClampLeavesInside = (x low high : Float) → lt x low ≡ false → lt high x ≡ false → clamp_of x low high ≡ x

-- Of a NaN and another, in either order, the lesser and the greater are the other.
abbrev pub MinOfNan : Type 0
MinOfNan = (x : Float) → (min_of nan x ≡ x) × (min_of x nan ≡ x)

abbrev pub MaxOfNan : Type 0
MaxOfNan = (x : Float) → (max_of nan x ≡ x) × (max_of x nan ≡ x)

-- A finite value without its sign is not negative.
abbrev pub AbsNotNegative : Type 0
AbsNotNegative = (x : Float) → T (finite x) → NotNegative (abs_of x)

-- The ends of a clamp around a, less and more by an m that is not negative, are in order.
abbrev pub EndsInOrder : Type 0
EndsInOrder = (a m : Float) → T (finite a) → T (finite m) → NotNegative m → T (le (sub binary32 a m) (add binary32 a m))
