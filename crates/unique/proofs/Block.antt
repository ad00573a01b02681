-- Nothing else would satisfy a contract of `block`.
use mathlib.Core.Path.{refl}
use Rattle.refusal.proofs.Claims.{one_answered, one_done}
use Rattle.block.proofs.count.Kinds as count_kinds
use Rattle.block.proofs.count.Reads as count
use Rattle.block.proofs.keep.Kinds as keep_kinds
use Rattle.block.proofs.keep.Reads as keep
use Rattle.unique.specs.Unique.{OneAnswer}
use Rattle.unique.proofs.Law.{same, ◌and◌, once}

pub count_once : OneAnswer 2 count_kinds.ps count_kinds.r count.Post
count_once κs a x y u v p q = (one_answered _ x y (same p.0 q.0) (same p.1 q.1), refl)

pub keep_once : OneAnswer 2 keep_kinds.ps keep_kinds.r keep.Post
keep_once =
    once 2 keep_kinds.ps keep_kinds.r keep.Post (λ κs a x y s t p q. one_done x y (same p.0 q.0))
    (λ κs a x u v p q. same p.1 q.1 and refl)
