-- Nothing else would satisfy a contract of `reel`.
use mathlib.Core.Path.{refl}
use Rattle.reel.proofs.Reel.start.Kinds as start_kinds
use Rattle.reel.proofs.Reel.start.Reads as start
use Rattle.reel.proofs.Reel.want.Kinds as want_kinds
use Rattle.reel.proofs.Reel.want.Reads as want
use Rattle.reel.proofs.Reel.next.Kinds as next_kinds
use Rattle.reel.proofs.Reel.next.Reads as next
use Rattle.unique.specs.Unique.{OneAnswer}
use Rattle.unique.proofs.Law.{same, ◌and◌, once}

pub start_once : OneAnswer 0 start_kinds.ps start_kinds.r start.Post
start_once κs a x y u v p q = (same p q, refl)

pub want_once : OneAnswer 0 want_kinds.ps want_kinds.r want.Post
want_once κs a x y u v p q = (same p q, refl)

pub next_once : OneAnswer 2 next_kinds.ps next_kinds.r next.Post
next_once =
    once 2 next_kinds.ps next_kinds.r next.Post (λ κs a x y s t p q. same p.0 q.0)
    (λ κs a x u v p q. refl and same p.1 q.1 and refl)
