-- The claims of specs/Claims.antt.
use mathlib.Core.Path.{refl}
use lib.Ieee.{add, mul, lt, to_unsigned, of_bits}
use Rattle.laws.specs.Refusal.{rising}
use Rattle.laws.proofs.Claims.{lowest_says}
use Rattle.float.specs.Float.{clamp_of}
use Rattle.colour.specs.Colour.{quantise_of}
use Rattle.colour.specs.Answer.{to_rgb_tests}
use Rattle.colour.specs.Claims.{ToRgbSays, ToRgbInUnit, ConvertedInUnit, QuantiseNan, QuantiseCards}
use Rattle.colour.proofs.Ranges.{bounded, bounded_samples}
use Rattle.colour.proofs.InUnit.{in_unit}

pub to_rgb_says : ToRgbSays
unfolding rising
to_rgb_says c y cb cr = lowest_says (to_rgb_tests c y cb cr) tt

pub converted_in_unit : ConvertedInUnit
converted_in_unit c y cb cr g p q r = in_unit c (bounded c g) q r p

pub to_rgb_in_unit : ToRgbInUnit
to_rgb_in_unit c y cb cr g h =
    let s = bounded_samples y cb cr h in
    converted_in_unit c y cb cr g s.0 s.1 s.2

pub quantise_nan : QuantiseNan
unfolding quantise_of clamp_of lt add mul of_bits to_unsigned
quantise_nan = refl

pub quantise_cards : QuantiseCards
unfolding quantise_of clamp_of lt add mul of_bits to_unsigned
quantise_cards = (refl, refl)
