-- Nothing else would satisfy a contract of `telecine`.
use mathlib.Core.Path.{refl}
use Rattle.refusal.proofs.Claims.{one_answered}
use Rattle.telecine.proofs.Claims.{pushed_settled}
use Rattle.telecine.proofs.Detector.new.Kinds as new_kinds
use Rattle.telecine.proofs.Detector.new.Reads as new
use Rattle.telecine.proofs.Detector.reset.Kinds as reset_kinds
use Rattle.telecine.proofs.Detector.reset.Reads as reset
use Rattle.telecine.proofs.Detector.locked.Kinds as locked_kinds
use Rattle.telecine.proofs.Detector.locked.Reads as locked
use Rattle.telecine.proofs.Detector.predict.Kinds as predict_kinds
use Rattle.telecine.proofs.Detector.predict.Reads as predict
use Rattle.telecine.proofs.Detector.push_measured.Kinds as push_measured_kinds
use Rattle.telecine.proofs.Detector.push_measured.Reads as push_measured
use Rattle.telecine.proofs.Detector.push.Kinds as push_kinds
use Rattle.telecine.proofs.Detector.push.Reads as push
use Rattle.telecine.proofs.step.Kinds as step_kinds
use Rattle.telecine.proofs.step.Reads as step
use Rattle.telecine.proofs.seen_measured.Kinds as seen_measured_kinds
use Rattle.telecine.proofs.seen_measured.Reads as seen_measured
use Rattle.unique.specs.Unique.{OneAnswer}
use Rattle.unique.proofs.Law.{same, ◌and◌, once}

pub new_once : OneAnswer 0 new_kinds.ps new_kinds.r new.Post
new_once κs a x y u v p q = (same p q, refl)

pub reset_once : OneAnswer 0 reset_kinds.ps reset_kinds.r reset.Post
reset_once κs a x y u v p q = (same p q, refl)

pub locked_once : OneAnswer 0 locked_kinds.ps locked_kinds.r locked.Post
locked_once κs a x y u v p q = (same p q, refl)

pub predict_once : OneAnswer 0 predict_kinds.ps predict_kinds.r predict.Post
predict_once κs a x y u v p q = (one_answered _ x y (same p.0 q.0) (same p.1 q.1), refl)

pub push_measured_once : OneAnswer 0 push_measured_kinds.ps push_measured_kinds.r push_measured.Post
push_measured_once κs a x y u v p q = (pushed_settled x y (same p.0 q.0) (same p.1.0 q.1.0) (same p.1.1 q.1.1), refl)

pub push_once : OneAnswer 2 push_kinds.ps push_kinds.r push.Post
push_once =
    once 2 push_kinds.ps push_kinds.r push.Post
    (λ κs a x y s t p q. pushed_settled x y (same p.0 q.0) (same p.1.0 q.1.0) (same p.1.1.0 q.1.1.0))
    (λ κs a x u v p q. refl and refl and refl and refl and same p.1.1.1 q.1.1.1 and refl)

pub step_once : OneAnswer 1 step_kinds.ps step_kinds.r step.Post
step_once =
    once 1 step_kinds.ps step_kinds.r step.Post
    (λ κs a x y s t p q.
    λ i. record {
      course = (same p.0 q.0 i).course;
      last = same p.1.0 q.1.0 i;
      answer = one_answered _ x.answer y.answer (same p.1.1.0 q.1.1.0) (same p.1.1.1 q.1.1.1) i;
    })
    (λ κs a x u v p q. (λ i. (same p.0 q.0 i).ring) and refl)

pub seen_measured_once : OneAnswer 0 seen_measured_kinds.ps seen_measured_kinds.r seen_measured.Post
seen_measured_once κs a x y u v p q = (same p q, refl)
