-- Nothing else would satisfy a contract of `comb`.
use mathlib.Core.Path.{refl}
use Rattle.refusal.proofs.Claims.{one_answered}
use Rattle.comb.proofs.comb.Kinds as comb_kinds
use Rattle.comb.proofs.comb.Reads as comb
use Rattle.comb.proofs.comb_rgba.Kinds as comb_rgba_kinds
use Rattle.comb.proofs.comb_rgba.Reads as comb_rgba
use Rattle.unique.specs.Unique.{OneAnswer}
use Rattle.unique.proofs.Law.{same}

pub comb_once : OneAnswer 1 comb_kinds.ps comb_kinds.r comb.Post
comb_once κs a x y u v p q = (one_answered _ x y (same p.0 q.0) (same p.1 q.1), refl)

pub comb_rgba_once : OneAnswer 1 comb_rgba_kinds.ps comb_rgba_kinds.r comb_rgba.Post
comb_rgba_once κs a x y u v p q = (one_answered _ x y (same p.0 q.0) (same p.1 q.1), refl)
