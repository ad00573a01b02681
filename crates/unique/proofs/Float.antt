-- Nothing else would satisfy a contract of `float`.
use mathlib.Core.Path.{refl}
use Rattle.float.proofs.abs.Kinds as abs_kinds
use Rattle.float.proofs.abs.Reads as abs
use Rattle.float.proofs.min.Kinds as min_kinds
use Rattle.float.proofs.min.Reads as min
use Rattle.float.proofs.max.Kinds as max_kinds
use Rattle.float.proofs.max.Reads as max
use Rattle.float.proofs.clamp.Kinds as clamp_kinds
use Rattle.float.proofs.clamp.Reads as clamp
use Rattle.float.proofs.to_u8.Kinds as to_u8_kinds
use Rattle.float.proofs.to_u8.Reads as to_u8
use Rattle.unique.specs.Unique.{OneAnswer}
use Rattle.unique.proofs.Law.{same}

pub abs_once : OneAnswer 0 abs_kinds.ps abs_kinds.r abs.Post
abs_once κs a x y u v p q = (same p q, refl)

pub min_once : OneAnswer 0 min_kinds.ps min_kinds.r min.Post
min_once κs a x y u v p q = (same p q, refl)

pub max_once : OneAnswer 0 max_kinds.ps max_kinds.r max.Post
max_once κs a x y u v p q = (same p q, refl)

pub clamp_once : OneAnswer 0 clamp_kinds.ps clamp_kinds.r clamp.Post
clamp_once κs a x y u v p q = (same p q, refl)

pub to_u8_once : OneAnswer 0 to_u8_kinds.ps to_u8_kinds.r to_u8.Post
to_u8_once κs a x y u v p q = (same p q, refl)
