-- A refusal's number (docs/RULES.md, "What the desk gets back"), and an answer as its number and its value.
use Rattle.std.specs.Prelude.{ℕ, List, [], ◌∷◌, Result, Ok, Err, codes}
use Rattle.refusal.specs.declared.Refusal.{Refusal}
use Rattle.refusal.specs.declared.Refusal.TheVariants as refusal

abbrev pub number_of : Refusal → ℕ
number_of refusal.PlaneCount = 1
number_of refusal.OnlyLuma = 2
number_of refusal.Outside = 3
number_of refusal.Shape = 4
number_of refusal.Differ = 5
number_of refusal.ShortInput = 6
number_of refusal.ShortOutput = 7
number_of refusal.Colour = 8
number_of refusal.TooManyFrames = 9
number_of refusal.TooFarAhead = 10

-- what is told of it, as bytes
abbrev pub text_of : Refusal → List ℕ
text_of refusal.PlaneCount = codes "readback has no plane, or more than 3"
text_of refusal.OnlyLuma = codes "readback has only luma"
text_of refusal.Outside = codes "a code names nothing, or a coordinate is outside"
text_of refusal.Shape = codes "a shape, or an RGBA width or height, is outside its bounds"
text_of refusal.Differ = codes "planes that must agree differ"
text_of refusal.ShortInput = codes "a lent input is shorter than its shape needs"
text_of refusal.ShortOutput = codes "a lent output or store is too short for what the call writes"
text_of refusal.Colour = codes "a colour number or sample is outside its range or a NaN"
text_of refusal.TooManyFrames = codes "the detector has taken 4,000,000,000 frames"
text_of refusal.TooFarAhead = codes "more than 1,000,000 frames ahead"

-- the number of an answer: 0 where it is a value, and a refusal's own
abbrev pub no_of : {A : Type 0} → Result A Refusal → ℕ
no_of (Ok x) = 0
no_of (Err refused) = number_of refused

-- the value of an answer, and none of a refusal
abbrev pub values_of : {A : Type 0} → Result A Refusal → List A
values_of (Ok x) = x ∷ []
values_of (Err refused) = []
