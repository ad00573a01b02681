-- Nothing else would satisfy a contract of `fill`.
use mathlib.Core.Path.{refl}
use Rattle.refusal.proofs.Claims.{one_done}
use Rattle.fill.proofs.part.Kinds as part_kinds
use Rattle.fill.proofs.part.Reads as part
use Rattle.fill.proofs.plane.Kinds as plane_kinds
use Rattle.fill.proofs.plane.Reads as plane
use Rattle.unique.specs.Unique.{OneAnswer}
use Rattle.unique.proofs.Law.{same, ◌and◌, once}

pub part_once : OneAnswer 4 part_kinds.ps part_kinds.r part.Post
part_once =
    once 4 part_kinds.ps part_kinds.r part.Post (λ κs a x y s t p q. one_done x y (same p.0 q.0))
    (λ κs a x u v p q. same p.1 q.1 and refl)

pub plane_once : OneAnswer 4 plane_kinds.ps plane_kinds.r plane.Post
plane_once =
    once 4 plane_kinds.ps plane_kinds.r plane.Post (λ κs a x y s t p q. one_done x y (same p.0 q.0))
    (λ κs a x u v p q. same p.1 q.1 and refl)
