-- Nothing else would satisfy a contract of `readback`.
use mathlib.Core.Path.{refl}
use Rattle.refusal.proofs.Claims.{one_answered, one_done}
use Rattle.readback.proofs.readback_sizes.Kinds as readback_sizes_kinds
use Rattle.readback.proofs.readback_sizes.Reads as readback_sizes
use Rattle.readback.proofs.readback_copy.Kinds as readback_copy_kinds
use Rattle.readback.proofs.readback_copy.Reads as readback_copy
use Rattle.unique.specs.Unique.{OneAnswer}
use Rattle.unique.proofs.Law.{same, ◌and◌, once}

pub readback_sizes_once : OneAnswer 3 readback_sizes_kinds.ps readback_sizes_kinds.r readback_sizes.Post
readback_sizes_once κs a x y u v p q = (one_answered _ x y (same p.0 q.0) (same p.1 q.1), refl)

pub readback_copy_once : OneAnswer 6 readback_copy_kinds.ps readback_copy_kinds.r readback_copy.Post
readback_copy_once =
    once 6 readback_copy_kinds.ps readback_copy_kinds.r readback_copy.Post (λ κs a x y s t p q. one_done x y (same p.0 q.0))
    (λ κs a x u v p q. same p.1.0 q.1.0 and same p.1.1.0 q.1.1.0 and same p.1.1.1 q.1.1.1 and refl)
