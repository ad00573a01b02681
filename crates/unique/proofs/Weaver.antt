-- Nothing else would satisfy a contract of `weaver`.
use mathlib.Core.Path.{refl}
use Rattle.laws.specs.Refusal.{when_done}
use Rattle.weaver.specs.Weaver.{picture_times, push_weaver}
use Rattle.weaver.proofs.Claims.{one_paired}
use Rattle.weaver.proofs.Weaver.new.Kinds as new_kinds
use Rattle.weaver.proofs.Weaver.new.Reads as new
use Rattle.weaver.proofs.Weaver.clear.Kinds as clear_kinds
use Rattle.weaver.proofs.Weaver.clear.Reads as clear
use Rattle.weaver.proofs.Weaver.push.Kinds as push_kinds
use Rattle.weaver.proofs.Weaver.push.Reads as push
use Rattle.unique.specs.Unique.{OneAnswer}
use Rattle.unique.proofs.Law.{same, same_by, ◌and◌, once}

pub new_once : OneAnswer 0 new_kinds.ps new_kinds.r new.Post
new_once κs a x y u v p q = (same p q, refl)

pub clear_once : OneAnswer 0 clear_kinds.ps clear_kinds.r clear.Post
clear_once κs a x y u v p q = (same p q, refl)

pub push_once : OneAnswer 7 push_kinds.ps push_kinds.r push.Post
push_once =
    once 7 push_kinds.ps push_kinds.r push.Post
    (λ κs a x y s t p q.
    let number = same p.0 q.0 in
    let values = same_by (λ k. when_done k (picture_times a.0 a.1.0 a.1.1.1.1.1.0)) number p.1.0 q.1.0 in
    let waiting = same_by (λ k. push_weaver k a.0 a.1.0 a.1.1.1.1.1.0 a.1.1.1.1.1.1.0) number p.1.1.0 q.1.1.0 in
    λ i. record { weaver = waiting i; answer = one_paired x.answer y.answer number values i })
    (λ κs a x u v p q. refl and refl and refl and refl and refl and refl and refl and same p.1.1.1.0 q.1.1.1.0
    and same p.1.1.1.1.0 q.1.1.1.1.0 and same p.1.1.1.1.1.0 q.1.1.1.1.1.0
    and same p.1.1.1.1.1.1 q.1.1.1.1.1.1 and refl)
