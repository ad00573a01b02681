-- The contracts of the exported calls are what the histories take them for: each, read as a plain type over the parameters of its signature in their
-- order, comes to the number, the bytes and the lists that History gives. So a contract that means another call, or other parameters, is refused
-- here, though its code meet it.
use Prim.Native.Nat.{ℕ}
use mathlib.Core.Path.{◌≡◌, refl, ap, ◌∙◌}
use mathlib.Core.List.{List}
use lib.ListN.{length}
use Rattle.laws.specs.Lent.{Comes}
use Rattle.filmdesk.specs.Film.{state_no, predict_state_no, measured_named}
use Rattle.filmdesk.specs.Left.{new_state, reset_state, locked_byte, foretold_byte, measured_state, measured_byte, pushed_state, pushed_store, pushed_byte}
use Rattle.filmdesk.specs.History.{picture, counts, new, push, reset, Lent, byte_in, Made}
use Rattle.filmdesk.proofs.desk_detector_new.Kinds as new-kinds
use Rattle.filmdesk.proofs.desk_detector_new.Reads as new-reads
use Rattle.filmdesk.proofs.desk_detector_reset.Kinds as reset-kinds
use Rattle.filmdesk.proofs.desk_detector_reset.Reads as reset-reads
use Rattle.filmdesk.proofs.desk_detector_locked.Kinds as locked-kinds
use Rattle.filmdesk.proofs.desk_detector_locked.Reads as locked-reads
use Rattle.filmdesk.proofs.desk_detector_predict.Kinds as predict-kinds
use Rattle.filmdesk.proofs.desk_detector_predict.Reads as predict-reads
use Rattle.filmdesk.proofs.desk_detector_push_measured.Kinds as measured-kinds
use Rattle.filmdesk.proofs.desk_detector_push_measured.Reads as measured-reads
use Rattle.filmdesk.proofs.desk_detector_push.Kinds as push-kinds
use Rattle.filmdesk.proofs.desk_detector_push.Reads as push-reads

abbrev lent : List ℕ → List ℕ → Lent
lent state store = record { state = state; store = store }

-- `new` and `reset` are lent no store, and leave any as it is
pub new_comes : Comes 1 new-kinds.ps new-kinds.r new-reads.Post (λ κs a x s. (store : List ℕ) → Made (lent a.0.now store) new x s.0.now store)
new_comes κs a x s met store =
    record { number = met.0; state_left = met.1 ∙ ap (λ (n : ℕ). new_state n a.0.now) met.0; store_left = refl }

pub reset_comes :
    Comes 1 reset-kinds.ps reset-kinds.r reset-reads.Post (λ κs a x s. (store : List ℕ) → Made (lent a.0.now store) reset x s.0.now store)
reset_comes κs a x s met store =
    record { number = met.0; state_left = met.1 ∙ ap (λ (n : ℕ). reset_state n a.0.now) met.0; store_left = refl }

-- the state, and the byte that is lent
pub locked_comes :
    Comes 2 locked-kinds.ps locked-kinds.r locked-reads.Post
    (λ κs a x s.
    (x ≡ state_no (length a.0.now)) × (s.1.0.now ≡ locked_byte (state_no (length a.0.now)) a.0.now a.1.0.now))
locked_comes κs a x s met = (met.0, met.1 ∙ ap (λ (n : ℕ). locked_byte n a.0.now a.1.0.now) met.0)

-- the state, how far ahead, and the byte
pub predict_comes :
    Comes 2 predict-kinds.ps predict-kinds.r predict-reads.Post
    (λ κs a x s.
    let number = predict_state_no (length a.0.now) a.1.0 in
    (x ≡ number) × (s.1.1.0.now ≡ foretold_byte number a.0.now a.1.0 a.1.1.0.now))
predict_comes κs a x s met = (met.0, met.1 ∙ ap (λ (n : ℕ). foretold_byte n a.0.now a.1.0 a.1.1.0.now) met.0)

-- the state, the parity, `present`, busy and all blocks of the leading field, then of the trailing, and the byte
pub measured_comes :
    Comes 2 measured-kinds.ps measured-kinds.r measured-reads.Post
    (λ κs a x s.
    (store : List ℕ) →
    let l = lent a.0.now store in
    let u = counts a.1.0 a.1.1.0 a.1.1.1.0 a.1.1.1.1.0 a.1.1.1.1.1.0 a.1.1.1.1.1.1.0 in
    Made l (push u) x s.0.now store × (s.1.1.1.1.1.1.1.0.now ≡ byte_in l u a.1.1.1.1.1.1.1.0.now))
measured_comes κs a x s met store =
    let m = measured_named a.1.1.0 a.1.1.1.0 a.1.1.1.1.0 a.1.1.1.1.1.0 a.1.1.1.1.1.1.0 in (
      record { number = met.0; state_left = met.1.0 ∙ ap (λ (n : ℕ). measured_state n a.0.now a.1.0 m) met.0; store_left = refl },
      met.1.1 ∙ ap (λ (n : ℕ). measured_byte n a.0.now a.1.0 m a.1.1.1.1.1.1.1.0.now) met.0,
    )

-- the state, the parity, the picture, its numbers, the store, and the byte
pub push_comes :
    Comes 4 push-kinds.ps push-kinds.r push-reads.Post
    (λ κs a x s.
    let l = lent a.0.now a.1.1.1.1.0.now in
    let u = picture a.1.0 a.1.1.0.now a.1.1.1.0 in
    Made l (push u) x s.0.now s.1.1.1.1.0.now × (s.1.1.1.1.1.0.now ≡ byte_in l u a.1.1.1.1.1.0.now))
push_comes κs a x s met =
    let state = a.0.now in
    let store = a.1.1.1.1.0.now in
    let plane = a.1.1.0.now in (
      record {
        number = met.0;
        state_left = met.1.0 ∙ ap (λ (n : ℕ). pushed_state n state store plane a.1.1.1.0 a.1.0) met.0;
        store_left = met.1.1.0 ∙ ap (λ (n : ℕ). pushed_store n state store plane a.1.1.1.0) met.0;
      },
      met.1.1.1 ∙ ap (λ (n : ℕ). pushed_byte n state store plane a.1.1.1.0 a.1.0 a.1.1.1.1.1.0.now) met.0,
    )
