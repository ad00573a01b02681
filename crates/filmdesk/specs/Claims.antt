-- What the exported functions' contracts come to. proofs/Claims.antt proves each claim under its name in small letters.
use Rattle.std.specs.Prelude.{ℕ, ◌+◌, ◌≤◌, ◌<◌, ◌^◌, ◌≡◌, ◌↔◌, List, ◌∷◌, Option, length, get_or}
use Rattle.laws.specs.Refusal.{lowest, Says}
use Rattle.field.specs.declared.Cadence.{Cadence}
use Rattle.field.specs.declared.Parity.{Parity}
use Rattle.plane.specs.declared.Shape.{Shape}
use Rattle.plane.specs.Plane.{code_of}
use Rattle.pulldown.specs.Runs.{Frame, Meets, phase_of, lock_frame, foretold}
use Rattle.pulldown.specs.Claims.{Third}
use Rattle.telecine.specs.declared.Detector.{Detector}
use Rattle.telecine.specs.declared.Measured.{Measured}
use Rattle.telecine.specs.Detector.{fresh_detector, reset_of, measured_detector, push_detector}
use Rattle.telecine.specs.History.{frames_of, run_of, refusal_tests}
use Rattle.telecine.specs.History as calls
use Rattle.numbers.specs.declared.GridNumbers.{GridNumbers}
use Rattle.filmdesk.specs.Kept.{detector_in, keeping}
use Rattle.filmdesk.specs.Film.{picture_named, busy_tests, new_tests, state_tests, state_no, predict_state_tests, predict_state_no, measured_state_tests, push_state_tests}
use Rattle.filmdesk.specs.Left.{locked_byte, foretold_byte}
use Rattle.filmdesk.specs.History.{Given, picture, Call, push, Lent, number_in, byte_in, number_of, next, after, named, frame_of, byte_of, taken}

-- a detector whose numbers have the sizes of their places, as every detector of the code has
pub record Sized (d : Detector) : Type 0 where
  pub ring : length d.lock.ring ≡ 15
  pub symbols : (i : ℕ) → i < 15 → get_or d.lock.ring i 0 < 256
  pub next : d.lock.course.next < 2 ^ 64
  pub held : d.lock.course.held < 2 ^ 64
  pub taken : d.lock.course.taken < 2 ^ 64
  pub phase : d.lock.course.phase < 256
  pub since : d.lock.course.since < 2 ^ 64
  pub stills : d.lock.course.stills < 2 ^ 64
  pub width : d.kept.width < 65536
  pub height : d.kept.height < 65536

-- What one call leaves in the state, the next one finds there.
abbrev pub FoundAgain : Type 0
FoundAgain = (d : Detector) (bytes : List ℕ) → Sized d → detector_in (keeping d bytes) ≡ d

-- and what bytes hold is such a detector, whichever bytes they are
abbrev pub AlwaysSized : Type 0
AlwaysSized = (bytes : List ℕ) → ((i : ℕ) → get_or bytes i 0 < 256) → Sized (detector_in bytes)

-- A fresh detector is one, and a call makes another of one: so what any call leaves in the state is found again.
abbrev pub FreshSized : Type 0
FreshSized = Sized fresh_detector

abbrev pub ResetSized : Type 0
ResetSized = (d : Detector) → Sized (reset_of d)

abbrev pub MeasuredSized : Type 0
MeasuredSized = (d : Detector) (first : Parity) (m : Option Measured) → Sized d → Sized (measured_detector d first m)

abbrev pub PushSized : Type 0
PushSized = (d : Detector) (store plane : List ℕ) (s : Shape) (first : Parity) → Sized d → Sized (push_detector d store plane s first)

-- The number is 0 exactly when no test fails, and n exactly when a test of n fails and none of a lower number does. Of `cadences` crate
-- `entry` has the claim.
abbrev pub BusySays : Type 0
BusySays = (n : GridNumbers) (bytes room parity : ℕ) → Says (busy_tests n bytes room parity)

abbrev pub NewSays : Type 0
NewSays = (state : ℕ) → Says (new_tests state)

-- of `reset` and of `locked`
abbrev pub StateSays : Type 0
StateSays = (state : ℕ) → Says (state_tests state)

abbrev pub PredictSays : Type 0
PredictSays = (state ahead : ℕ) → Says (predict_state_tests state ahead)

abbrev pub MeasuredSays : Type 0
MeasuredSays = (parity present state : ℕ) (d : Detector) → Says (measured_state_tests parity present state d)

abbrev pub PushSays : Type 0
PushSays = (n : GridNumbers) (parity bytes room state : ℕ) (d : Detector) → Says (push_state_tests n parity bytes room state d)

-- ---- over any calls

-- A refused call leaves the state and the store as they were, whatever they hold and however long they are: also a store that is not the
-- history's own, or a state too short for a detector, with which every call is refused. So no refused call is outside what follows.
abbrev pub RefusedLeaves : Type 0
RefusedLeaves = (l : Lent) (call : Call) → (number_of l call ≡ 0 → ⊥) → next l call ≡ l

abbrev pub TooShort : Type 0
TooShort = (l : Lent) (call : Call) → length l.state < 96 → number_of l call ≡ 0 → ⊥

-- Nor does it touch the byte that was to get an answer.
pub record ByteStays (l : Lent) (before : ℕ) : Type 0 where
  pub pushed : (u : Given) → (number_in l u ≡ 0 → ⊥) → byte_in l u before ≡ before
  pub locked : (state_no (length l.state) ≡ 0 → ⊥) → locked_byte (state_no (length l.state)) l.state before ≡ before
  pub foretold :
      (ahead : ℕ) → let number = predict_state_no (length l.state) ahead in
      (number ≡ 0 → ⊥) → foretold_byte number l.state ahead before ≡ before

abbrev pub BytesStay : Type 0
BytesStay = (l : Lent) (before : ℕ) → ByteStays l before

-- What a frame gets is known from the host's numbers, the frames before it that were taken, and the length of the store.
abbrev pub RefusalKnown : Type 0
RefusalKnown =
    (l : Lent) (u : Given) (earlier : List Call) → 96 ≤ length l.state
    → number_in (after l earlier) u ≡ lowest ((3, named u) ∷ refusal_tests (length l.store) (frame_of u) (taken (length l.store) earlier))

-- Two pictures with the same numbers, of one length and with the same codes, get the same and leave the same, whatever their stray bits and
-- whatever is lent with them.
abbrev pub CodesSettle : Type 0
CodesSettle =
    (l : Lent) (parity byte : ℕ) (plane plane' : List ℕ) (n : GridNumbers) → length plane ≡ length plane'
    → ((x y : ℕ) → x < n.width → y < n.height → code_of plane (picture_named n) x y ≡ code_of plane' (picture_named n) x y)
    → (number_in l (picture parity plane n) ≡ number_in l (picture parity plane' n))
    × (byte_in l (picture parity plane n) byte ≡ byte_in l (picture parity plane' n) byte)
    × (next l (push (picture parity plane n)) ≡ next l (push (picture parity plane' n)))

-- Demand 3 of a frame that the host gives after some calls: the byte that it gets stands for a cadence, whatever was in its place, and that is
-- what the demand says of the frame and its run.
pub record Demanded (l : Lent) (u : Given) (known : List calls.Call) : Type 0 where
  pub cadence : Cadence
  pub byte : (before : ℕ) → byte_in l u before ≡ byte_of cadence
  pub third : Third (frames_of known) (run_of (calls.push (frame_of u) ∷ known)) cadence

-- Take any calls of `new`, `push`, `push_measured` and `reset` after a `new`, refused ones among them, the state and the store lent back as they
-- were left. A frame that is not refused gets what the demand says of the frames that the host gave.
abbrev pub ThirdDemand : Type 0
ThirdDemand =
    (l : Lent) (u : Given) (earlier : List Call) → 96 ≤ length l.state → number_in (after l earlier) u ≡ 0
    → Demanded (after l earlier) u (taken (length l.store) earlier)

-- `locked` gives 1 exactly when the newest frame met demand 3 with some phase, and 0 exactly when it met it with none.
pub record TellsLock (byte : ℕ) (run : List Frame) : Type 0 where
  pub one : (byte ≡ 1) ↔ ((p : ℕ) × (p < 5) × Meets p run)
  pub zero : (byte ≡ 0) ↔ ((p : ℕ) → p < 5 → Meets p run → ⊥)

abbrev pub LockedOverCalls : Type 0
LockedOverCalls =
    (l : Lent) (made : List Call) (before : ℕ) → 96 ≤ length l.state
    → let state = (after l made).state in
    TellsLock (locked_byte (state_no (length state)) state before) (run_of (taken (length l.store) made))

-- `predict` gives what is foretold by the phase and the lock frame of its run: at = frames taken + ahead.
abbrev pub PredictOverCalls : Type 0
PredictOverCalls =
    (l : Lent) (made : List Call) (ahead before : ℕ) → 96 ≤ length l.state → ahead ≤ 1000000
    → let state = (after l made).state in
    let known = taken (length l.store) made in
    foretold_byte (predict_state_no (length state) ahead) state ahead before
    ≡ byte_of (foretold (phase_of (run_of known)) (lock_frame (run_of known)) (frames_of known + ahead))
