-- Nothing else would satisfy a contract of `pulldown`.
use mathlib.Core.Path.{refl}
use Rattle.refusal.proofs.Claims.{one_answered, one_done}
use Rattle.pulldown.proofs.classify_counts.Kinds as classify_counts_kinds
use Rattle.pulldown.proofs.classify_counts.Reads as classify_counts
use Rattle.pulldown.proofs.push_apart.Kinds as push_apart_kinds
use Rattle.pulldown.proofs.push_apart.Reads as push_apart
use Rattle.pulldown.proofs.Lock.new.Kinds as new_kinds
use Rattle.pulldown.proofs.Lock.new.Reads as new
use Rattle.pulldown.proofs.Lock.reset.Kinds as reset_kinds
use Rattle.pulldown.proofs.Lock.reset.Reads as reset
use Rattle.pulldown.proofs.Lock.locked.Kinds as locked_kinds
use Rattle.pulldown.proofs.Lock.locked.Reads as locked
use Rattle.pulldown.proofs.Lock.push.Kinds as push_kinds
use Rattle.pulldown.proofs.Lock.push.Reads as push
use Rattle.pulldown.proofs.Lock.predict.Kinds as predict_kinds
use Rattle.pulldown.proofs.Lock.predict.Reads as predict
use Rattle.pulldown.proofs.seen_code.Kinds as seen_code_kinds
use Rattle.pulldown.proofs.seen_code.Reads as seen_code
use Rattle.pulldown.proofs.cadences_of.Kinds as cadences_of_kinds
use Rattle.pulldown.proofs.cadences_of.Reads as cadences_of
use Rattle.unique.specs.Unique.{OneAnswer}
use Rattle.unique.proofs.Law.{same, ◌and◌, once}

pub classify_counts_once : OneAnswer 0 classify_counts_kinds.ps classify_counts_kinds.r classify_counts.Post
classify_counts_once κs a x y u v p q = (same p q, refl)

pub push_apart_once : OneAnswer 1 push_apart_kinds.ps push_apart_kinds.r push_apart.Post
push_apart_once =
    once 1 push_apart_kinds.ps push_apart_kinds.r push_apart.Post
    (λ κs a x y s t p q.
    λ i. record {
      course = (same p.0 q.0 i).course;
      answer = one_answered _ x.answer y.answer (same p.1.0 q.1.0) (same p.1.1 q.1.1) i;
    })
    (λ κs a x u v p q. (λ i. (same p.0 q.0 i).ring) and refl)

pub new_once : OneAnswer 0 new_kinds.ps new_kinds.r new.Post
new_once κs a x y u v p q = (same p q, refl)

pub reset_once : OneAnswer 0 reset_kinds.ps reset_kinds.r reset.Post
reset_once κs a x y u v p q = (same p q, refl)

pub locked_once : OneAnswer 0 locked_kinds.ps locked_kinds.r locked.Post
locked_once κs a x y u v p q = (same p q, refl)

pub push_once : OneAnswer 0 push_kinds.ps push_kinds.r push.Post
push_once κs a x y u v p q =
    (λ i. record { lock = same p.0 q.0 i; answer = one_answered _ x.answer y.answer (same p.1 q.1) (same p.2 q.2) i }, refl)

pub predict_once : OneAnswer 0 predict_kinds.ps predict_kinds.r predict.Post
predict_once κs a x y u v p q = (one_answered _ x y (same p.0 q.0) (same p.1 q.1), refl)

pub seen_code_once : OneAnswer 0 seen_code_kinds.ps seen_code_kinds.r seen_code.Post
seen_code_once κs a x y u v p q = (same p q, refl)

pub cadences_of_once : OneAnswer 1 cadences_of_kinds.ps cadences_of_kinds.r cadences_of.Post
cadences_of_once =
    once 1 cadences_of_kinds.ps cadences_of_kinds.r cadences_of.Post (λ κs a x y s t p q. one_done x y (same p.0 q.0))
    (λ κs a x u v p q. same p.1 q.1 and refl)
