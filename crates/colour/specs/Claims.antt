-- What the contracts come to. proofs/Claims.antt proves each claim under its name in small letters.
use Rattle.std.specs.Prelude.{◌≡◌, true, Float}
use Rattle.std.specs.Float.{nan, binary32}
use Rattle.std.specs.Float.Ieee.{of_bits}
use Rattle.laws.specs.Refusal.{Says}
use Rattle.float.specs.Float.{one_f}
use Rattle.float.specs.Bounds.{Small, Unit}
use Rattle.colour.specs.declared.Conversion.{Conversion}
use Rattle.colour.specs.declared.Rgb.{Rgb}
use Rattle.colour.specs.Colour.{good_conversion, good_samples, converted_of, quantise_of}
use Rattle.colour.specs.Answer.{to_rgb_tests}

-- The number is 8 exactly when one of the nine numbers or of the three samples is outside its range or a NaN, and 0 exactly when none is.
abbrev pub ToRgbSays : Type 0
ToRgbSays = (c : Conversion) (y cb cr : Float) → Says (to_rgb_tests c y cb cr)

-- each of the three values lies from 0 to 1, and so is no NaN
pub record InUnit (rgb : Rgb) : Type 0 where
  pub red : Unit rgb.red
  pub green : Unit rgb.green
  pub blue : Unit rgb.blue

-- What `to_rgb` does not refuse it gives values from 0 to 1.
abbrev pub ToRgbInUnit : Type 0
ToRgbInUnit = (c : Conversion) (y cb cr : Float) → good_conversion c ≡ true → good_samples y cb cr ≡ true → InUnit (converted_of c y cb cr)

-- `converted` does too where the nine numbers are in range and no sample is larger than 256 in size: a negative one will do.
abbrev pub ConvertedInUnit : Type 0
ConvertedInUnit = (c : Conversion) (y cb cr : Float) → good_conversion c ≡ true → Small 8 y → Small 8 cb → Small 8 cr → InUnit (converted_of c y cb cr)

-- A NaN as a byte is 0.
abbrev pub QuantiseNan : Type 0
QuantiseNan = quantise_of nan ≡ 0

-- The two bench cards of `quantise`, which are not in the table of crate `cards`: 0.5 gives 128, 1.0 gives 255.
abbrev pub QuantiseCards : Type 0
QuantiseCards = (quantise_of (of_bits binary32 0x3f00_0000) ≡ 128) × (quantise_of one_f ≡ 255)
