-- The claims over any calls: the state always holds the detector that the frames given so far leave, of which crate `telecine` has the same claims.
use Prim.Native.Nat.{ℕ, ◌+◌, ◌≤◌, ◌<◌}
use mathlib.Core.Path.{◌≡◌, refl, sym, ap, subst, ◌∙◌}
use mathlib.Core.Logic.{◌↔◌, ⊎_elim}
use mathlib.Core.Bool.{Bool, true, false, cond}
use mathlib.Core.List.{List, [], ◌∷◌}
use native.Mathlib.Omega.{arith}
use lib.Dec.{leb}
use lib.ListN.{length}
use borrow.Author.Tests.{le-leb, lt-leb, ne_eqb}
use Rattle.laws.specs.Refusal.{lowest, written, rising}
use Rattle.laws.proofs.Refusal.{all_pass}
use Rattle.field.specs.declared.Cadence.{Cadence}
use Rattle.field.specs.declared.Cadence.TheVariants.{None, Whole, Drop, Spanning}
use Rattle.field.specs.Field.{cadence_number}
use Rattle.pulldown.specs.Runs.{Frame, Meets, phase_of, lock_frame, foretold}
use Rattle.pulldown.specs.Claims.{Third}
use Rattle.laws.proofs.Bools.{known, clash, and_left}
use Rattle.telecine.specs.Detector.{fresh_detector, reset_of}
use Rattle.telecine.specs.History as calls
use Rattle.telecine.proofs.Reached as telecine-reached
use Rattle.telecine.proofs.Claims as telecine
use Rattle.filmdesk.specs.Kept.{number_if, detector_in}
use Rattle.filmdesk.specs.Film.{new_tests, state_tests, state_no, predict_state_no, measured_state_tests, push_state_tests}
use Rattle.filmdesk.specs.History.{Given, picture, counts, Call, new, push, reset, Lent, number_in, byte_in, number_of, next, after, named, frame_of, byte_of, calls_of}
use Rattle.filmdesk.specs.Claims.{RefusedLeaves, TooShort, BytesStay, RefusalKnown, ThirdDemand, TellsLock, LockedOverCalls, PredictOverCalls}
use Rattle.filmdesk.proofs.States.{found_again, fresh_sized, reset_sized}
use Rattle.filmdesk.proofs.Holds.{Holds, room_after, written_by}
use Rattle.filmdesk.proofs.Frames.{number_is, number_named, number_unnamed, push_named, push_unnamed, byte_is}

-- ---- `new` and `reset`
reset_holds : (l : Lent) (s : calls.State) → Holds l s → Holds (next l reset) (calls.next s calls.reset)
unfolding lowest
reset_holds l s h =
    let z = reset_sized (detector_in l.state) in
    let w = written_by true l.state (detector_in l.state) (reset_of (detector_in l.state)) h.room refl z in
    rw (le-leb 96 (length l.state) h.room)
    (record { room = w.room; detector = w.detector ∙ ap reset_of h.detector; sized = reset_sized s.detector; store = h.store })

new_holds : (l : Lent) → 96 ≤ length l.state → Holds (next l new) (calls.after l.store [])
unfolding lowest
new_holds l room =
    rw (le-leb 96 (length l.state) room)
    (record { room = room_after fresh_detector l.state fresh_sized room; detector = found_again fresh_detector l.state fresh_sized; sized = fresh_sized; store = refl })

-- ---- any calls

-- what the calls leave is what the frames since the last `new` leave, from the store that it found
record Follows (l : Lent) (made : List Call) : Type 0 where
  found : List ℕ
  long : length found ≡ length l.store
  holds : Holds (after l made) (calls.after found (calls_of made))

store_long : (l : Lent) (made : List Call) → Follows l made → length (after l made).store ≡ length l.store
store_long l made f = ap length f.holds.store ∙ (telecine-reached.any_reached f.found (calls_of made)).long ∙ f.long

follows : (l : Lent) (made : List Call) → 96 ≤ length l.state → Follows l made
follows l [] room = record { found = l.store; long = refl; holds = new_holds l room }
follows l (new ∷ earlier) room =
    let f = follows l earlier room in
    record { found = (after l earlier).store; long = store_long l earlier f; holds = new_holds (after l earlier) f.holds.room }
follows l (reset ∷ earlier) room =
    let f = follows l earlier room in record { found = f.found; long = f.long; holds = reset_holds _ _ f.holds }
follows l (push u ∷ earlier) room =
    let f = follows l earlier room in
    record {
      found = f.found;
      long = f.long;
      holds = ⊎_elim (λ e. rw e (push_named _ _ f.holds u e)) (λ e. rw e (push_unnamed _ _ f.holds u e)) (known (named u));
    }

-- ---- the claims
pub refused_leaves : RefusedLeaves
refused_leaves l new h = rw (ne_eqb (number_of l new) 0 h)
refused_leaves l reset h = rw (ne_eqb (number_of l reset) 0 h)
refused_leaves l (push (picture parity plane n)) h = rw (ne_eqb (number_in l (picture parity plane n)) 0 h)
refused_leaves l (push (counts parity present busy total other-busy other-total)) h =
    rw (ne_eqb (number_in l (counts parity present busy total other-busy other-total)) 0 h)

bytes_stay_by : (number value before : ℕ) → (number ≡ 0 → ⊥) → written number value before ≡ before
bytes_stay_by number value before h = rw (ne_eqb number 0 h)

pub bytes_stay : BytesStay
bytes_stay l before = record {
  pushed = pushed;
  locked = λ h. bytes_stay_by _ _ before h;
  foretold = λ ahead h. bytes_stay_by _ _ before h;
}
  where
    pushed : (u : Given) → (number_in l u ≡ 0 → ⊥) → byte_in l u before ≡ before
    pushed (picture parity plane n) h = bytes_stay_by _ _ before h
    pushed (counts parity present busy total other-busy other-total) h = bytes_stay_by _ _ before h

-- every call looks at the state's length
pub too_short : TooShort
unfolding rising
too_short l call h done = clash (long call done) (lt-leb 96 (length l.state) h)
  where
    long : (call : Call) → number_of l call ≡ 0 → leb 96 (length l.state) ≡ true
    long new z = (all_pass (new_tests (length l.state)) tt z).0
    long reset z = (all_pass (state_tests (length l.state)) tt z).0
    long (push (counts parity present busy total other-busy other-total)) z =
        (all_pass (measured_state_tests parity present (length l.state) (detector_in l.state)) tt z).1.0
    long (push (picture parity plane n)) z =
        and_left _ _ (and_left _ _ (all_pass (push_state_tests n parity (length plane) (length l.store) (length l.state) (detector_in l.state)) tt z).1.1.0)

first_test : (b : Bool) (tests : List (ℕ × Bool)) → lowest ((3, b) ∷ tests) ≡ cond b (lowest tests) 3
unfolding lowest
first_test b tests = refl

pub refusal_known : RefusalKnown
refusal_known l u earlier room =
    let f = follows l earlier room in
    number_is _ _ f.holds u
    ∙ ap (λ (n : ℕ). cond (named u) n 3) (telecine.refusal_known f.found (frame_of u) (calls_of earlier) ∙ rw f.long refl)
    ∙ sym (first_test (named u) _)

-- the byte of the contracts is the host's
same_byte : (c : Cadence) → cadence_number c ≡ byte_of c
same_byte None = refl
same_byte Whole = refl
same_byte Drop = refl
same_byte Spanning = refl

unnamed_refused : (l : Lent) (s : calls.State) (h : Holds l s) (u : Given) → named u ≡ false → number_in l u ≡ 0 → ⊥
unnamed_refused l s h u e done = omega (arith, sym (number_unnamed l s h u e) ∙ done)

pub third_demand : ThirdDemand
third_demand l u earlier room done =
    let f = follows l earlier room in
    ⊎_elim
    (λ e. record {
      cadence = calls.cadence_in (calls.after f.found (calls_of earlier)) (frame_of u);
      byte = λ before. byte_is _ _ f.holds u before e done ∙ same_byte (calls.cadence_in (calls.after f.found (calls_of earlier)) (frame_of u));
      third =
          subst
          (λ (room : ℕ).
          let known = calls.taken room (calls_of earlier) in
          Third (calls.frames_of known) (calls.run_of (calls.push (frame_of u) ∷ known)) (calls.cadence_of f.found (frame_of u) (calls_of earlier)))
          f.long
          (telecine.third_demand f.found (frame_of u) (calls_of earlier) (sym (number_named _ _ f.holds u e) ∙ done));
    })
    (λ e. absurd (unnamed_refused _ _ f.holds u e done))
    (known (named u))

-- ---- `locked` and `predict`
number_one : (b : Bool) → (number_if b ≡ 1) ↔ (b ≡ true)
number_one true = (λ e. refl, λ e. refl)
number_one false = (λ e. absurd (omega arith), λ e. absurd (clash e refl))

number_zero : (b : Bool) → (number_if b ≡ 0) ↔ (b ≡ false)
number_zero true = (λ e. absurd (omega arith), λ e. absurd (clash refl e))
number_zero false = (λ e. refl, λ e. refl)

tells_lock : (b : Bool) (run : List Frame) → (b ≡ true) ↔ ((p : ℕ) × (p < 5) × Meets p run) → TellsLock (number_if b) run
tells_lock b run says = record {
  one = (λ e. says.0 ((number_one b).0 e), λ m. (number_one b).1 (says.1 m));
  zero = (λ e p h m. clash (says.1 (p, h, m)) ((number_zero b).0 e), λ none. (number_zero b).1 (unmet none));
}
  where
    unmet : ((p : ℕ) → p < 5 → Meets p run → ⊥) → b ≡ false
    unmet none = ⊎_elim (λ e. let m = says.0 e in absurd (none m.0 m.1 m.2)) (λ e. e) (known b)

state_read : (state : List ℕ) → 96 ≤ length state → state_no (length state) ≡ 0
unfolding lowest
state_read state room = rw (le-leb 96 (length state) room)

pub locked_over_calls : LockedOverCalls
locked_over_calls l made before room =
    let f = follows l made room in
    rw (state_read (after l made).state f.holds.room, f.holds.detector, sym f.long)
    (tells_lock _ _ (telecine.locked_says f.found (calls_of made)))

predict_read : (state : List ℕ) (ahead : ℕ) → 96 ≤ length state → ahead ≤ 1000000 → predict_state_no (length state) ahead ≡ 0
unfolding lowest
predict_read state ahead room near = rw (le-leb 96 (length state) room, le-leb ahead 1000000 near)

pub predict_over_calls : PredictOverCalls
predict_over_calls l made ahead before room near =
    let f = follows l made room in
    let known = calls.taken (length f.found) (calls_of made) in
    rw (predict_read (after l made).state ahead f.holds.room near, f.holds.detector, sym f.long)
    (ap cadence_number (telecine.predict_says f.found (calls_of made) ahead)
    ∙ same_byte (foretold (phase_of (calls.run_of known)) (lock_frame (calls.run_of known)) (calls.frames_of known + ahead)))
