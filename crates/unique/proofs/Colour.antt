-- Nothing else would satisfy a contract of `colour`.
use mathlib.Core.Path.{refl}
use Rattle.refusal.proofs.Claims.{one_answered}
use Rattle.colour.proofs.Primaries.luma.Kinds as luma_kinds
use Rattle.colour.proofs.Primaries.luma.Reads as luma
use Rattle.colour.proofs.good_conversion.Kinds as good_conversion_kinds
use Rattle.colour.proofs.good_conversion.Reads as good_conversion
use Rattle.colour.proofs.converted.Kinds as converted_kinds
use Rattle.colour.proofs.converted.Reads as converted
use Rattle.colour.proofs.to_rgb.Kinds as to_rgb_kinds
use Rattle.colour.proofs.to_rgb.Reads as to_rgb
use Rattle.colour.proofs.quantise.Kinds as quantise_kinds
use Rattle.colour.proofs.quantise.Reads as quantise
use Rattle.unique.specs.Unique.{OneAnswer}
use Rattle.unique.proofs.Law.{same}

pub luma_once : OneAnswer 0 luma_kinds.ps luma_kinds.r luma.Post
luma_once κs a x y u v p q = (same p q, refl)

pub good_conversion_once : OneAnswer 0 good_conversion_kinds.ps good_conversion_kinds.r good_conversion.Post
good_conversion_once κs a x y u v p q = (same p q, refl)

pub converted_once : OneAnswer 0 converted_kinds.ps converted_kinds.r converted.Post
converted_once κs a x y u v p q = (same p q, refl)

pub to_rgb_once : OneAnswer 0 to_rgb_kinds.ps to_rgb_kinds.r to_rgb.Post
to_rgb_once κs a x y u v p q = (one_answered _ x y (same p.0 q.0) (same p.1 q.1), refl)

pub quantise_once : OneAnswer 0 quantise_kinds.ps quantise_kinds.r quantise.Post
quantise_once κs a x y u v p q = (same p q, refl)
