-- Nothing else would satisfy a contract of `picture`.
use mathlib.Core.Path.{refl}
use Rattle.refusal.proofs.Claims.{one_done}
use Rattle.picture.proofs.picture_of.Kinds as picture_of_kinds
use Rattle.picture.proofs.picture_of.Reads as picture_of
use Rattle.unique.specs.Unique.{OneAnswer}
use Rattle.unique.proofs.Law.{same, ◌and◌, once}

pub picture_of_once : OneAnswer 2 picture_of_kinds.ps picture_of_kinds.r picture_of.Post
picture_of_once =
    once 2 picture_of_kinds.ps picture_of_kinds.r picture_of.Post (λ κs a x y s t p q. one_done x y (same p.0 q.0))
    (λ κs a x u v p q. same p.1 q.1 and refl)
