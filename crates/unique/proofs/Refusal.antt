-- Nothing else would satisfy a contract of `refusal`.
use mathlib.Core.Path.{refl}
use Rattle.refusal.proofs.Claims.{one_tested}
use Rattle.refusal.proofs.Refusal.number.Kinds as number_kinds
use Rattle.refusal.proofs.Refusal.number.Reads as number
use Rattle.refusal.proofs.Refusal.unless.Kinds as unless_kinds
use Rattle.refusal.proofs.Refusal.unless.Reads as unless
use Rattle.refusal.proofs.told.Kinds as told_kinds
use Rattle.refusal.proofs.told.Reads as told
use Rattle.unique.specs.Unique.{OneAnswer}
use Rattle.unique.proofs.Law.{same}

pub number_once : OneAnswer 0 number_kinds.ps number_kinds.r number.Post
number_once κs a x y u v p q = (same p q, refl)

pub unless_once : OneAnswer 0 unless_kinds.ps unless_kinds.r unless.Post
unless_once κs a x y u v p q = (one_tested _ _ x y p q, refl)

pub told_once : OneAnswer 0 told_kinds.ps told_kinds.r told.Post
told_once κs a x y u v p q = (same p q, refl)
