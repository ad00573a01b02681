-- Made by tools/calls from the exports; not to be changed by hand.
-- Nothing else would satisfy a contract of `filmdesk`.
use mathlib.Core.Path.{refl}
use Rattle.filmdesk.proofs.desk_busy.Kinds as desk_busy_kinds
use Rattle.filmdesk.proofs.desk_busy.Reads as desk_busy
use Rattle.filmdesk.proofs.desk_cadences.Kinds as desk_cadences_kinds
use Rattle.filmdesk.proofs.desk_cadences.Reads as desk_cadences
use Rattle.filmdesk.proofs.desk_detector_new.Kinds as desk_detector_new_kinds
use Rattle.filmdesk.proofs.desk_detector_new.Reads as desk_detector_new
use Rattle.filmdesk.proofs.desk_detector_reset.Kinds as desk_detector_reset_kinds
use Rattle.filmdesk.proofs.desk_detector_reset.Reads as desk_detector_reset
use Rattle.filmdesk.proofs.desk_detector_locked.Kinds as desk_detector_locked_kinds
use Rattle.filmdesk.proofs.desk_detector_locked.Reads as desk_detector_locked
use Rattle.filmdesk.proofs.desk_detector_predict.Kinds as desk_detector_predict_kinds
use Rattle.filmdesk.proofs.desk_detector_predict.Reads as desk_detector_predict
use Rattle.filmdesk.proofs.desk_detector_push_measured.Kinds as desk_detector_push_measured_kinds
use Rattle.filmdesk.proofs.desk_detector_push_measured.Reads as desk_detector_push_measured
use Rattle.filmdesk.proofs.desk_detector_push.Kinds as desk_detector_push_kinds
use Rattle.filmdesk.proofs.desk_detector_push.Reads as desk_detector_push
use Rattle.unique.specs.Unique.{OneAnswer}
use Rattle.unique.proofs.Law.{same, ◌and◌, once}

pub desk_busy_once : OneAnswer 4 desk_busy_kinds.ps desk_busy_kinds.r desk_busy.Post
desk_busy_once =
    once 4 desk_busy_kinds.ps desk_busy_kinds.r desk_busy.Post (λ κs a x y s t p q. same p.0 q.0)
    (λ κs a x u v p q. refl and refl and refl and refl and same p.1.0 q.1.0 and same p.1.1 q.1.1 and refl)

pub desk_cadences_once : OneAnswer 2 desk_cadences_kinds.ps desk_cadences_kinds.r desk_cadences.Post
desk_cadences_once =
    once 2 desk_cadences_kinds.ps desk_cadences_kinds.r desk_cadences.Post (λ κs a x y s t p q. same p.0 q.0)
    (λ κs a x u v p q. refl and same p.1 q.1 and refl)

pub desk_detector_new_once : OneAnswer 1 desk_detector_new_kinds.ps desk_detector_new_kinds.r desk_detector_new.Post
desk_detector_new_once =
    once 1 desk_detector_new_kinds.ps desk_detector_new_kinds.r desk_detector_new.Post (λ κs a x y s t p q. same p.0 q.0)
    (λ κs a x u v p q. same p.1 q.1 and refl)

pub desk_detector_reset_once : OneAnswer 1 desk_detector_reset_kinds.ps desk_detector_reset_kinds.r desk_detector_reset.Post
desk_detector_reset_once =
    once 1 desk_detector_reset_kinds.ps desk_detector_reset_kinds.r desk_detector_reset.Post (λ κs a x y s t p q. same p.0 q.0)
    (λ κs a x u v p q. same p.1 q.1 and refl)

pub desk_detector_locked_once : OneAnswer 2 desk_detector_locked_kinds.ps desk_detector_locked_kinds.r desk_detector_locked.Post
desk_detector_locked_once =
    once 2 desk_detector_locked_kinds.ps desk_detector_locked_kinds.r desk_detector_locked.Post (λ κs a x y s t p q. same p.0 q.0)
    (λ κs a x u v p q. refl and same p.1 q.1 and refl)

pub desk_detector_predict_once : OneAnswer 2 desk_detector_predict_kinds.ps desk_detector_predict_kinds.r desk_detector_predict.Post
desk_detector_predict_once =
    once 2 desk_detector_predict_kinds.ps desk_detector_predict_kinds.r desk_detector_predict.Post (λ κs a x y s t p q. same p.0 q.0)
    (λ κs a x u v p q. refl and refl and same p.1 q.1 and refl)

pub desk_detector_push_measured_once : OneAnswer 2 desk_detector_push_measured_kinds.ps desk_detector_push_measured_kinds.r desk_detector_push_measured.Post
desk_detector_push_measured_once =
    once 2 desk_detector_push_measured_kinds.ps desk_detector_push_measured_kinds.r desk_detector_push_measured.Post (λ κs a x y s t p q. same p.0 q.0)
    (λ κs a x u v p q. same p.1.0 q.1.0 and refl and refl and refl and refl and refl and refl and same p.1.1 q.1.1 and refl)

pub desk_detector_push_once : OneAnswer 4 desk_detector_push_kinds.ps desk_detector_push_kinds.r desk_detector_push.Post
desk_detector_push_once =
    once 4 desk_detector_push_kinds.ps desk_detector_push_kinds.r desk_detector_push.Post (λ κs a x y s t p q. same p.0 q.0)
    (λ κs a x u v p q. same p.1.0 q.1.0 and refl and refl and refl and same p.1.1.0 q.1.1.0 and same p.1.1.1 q.1.1.1 and refl)
