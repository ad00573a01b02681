-- What is claimed of the detector over calls (docs/RULES.md, "Runs, phases, cadence", "What the desk gets back", "How tight the statements
-- are", and demand 3). proofs/Claims.antt proves each claim under its name in small letters. No claim supposes anything of a history: calls
-- that are refused may stand anywhere, and `taken` leaves them out. Lists of calls are newest first. Of the answers themselves, and of 10,
-- crate `pulldown` has the claims.
use Rattle.std.specs.Prelude.{ℕ, ◌+◌, ◌<◌, ◌≡◌, ◌↔◌, true, List, [], ◌∷◌, ◌++◌, length, Some, None}
use Rattle.laws.specs.Refusal.{Says}
use Rattle.refusal.specs.Refusal.{no_of, values_of}
use Rattle.field.specs.declared.Parity.{Parity}
use Rattle.plane.specs.declared.Shape.{Shape}
use Rattle.plane.specs.Plane.{code_of}
use Rattle.pulldown.specs.declared.Symbol.{Symbol}
use Rattle.pulldown.specs.Runs.{Frame, frame_of, Meets, phase_of, lock_frame, foretold}
use Rattle.pulldown.specs.Lock.{locked_of, predict_cadence}
use Rattle.pulldown.specs.Claims.{Third}
use Rattle.pulldown.specs.Claims as lock
use Rattle.telecine.specs.declared.Detector.{Detector}
use Rattle.telecine.specs.declared.Pushed.{Pushed}
use Rattle.telecine.specs.Detector.{fresh_detector, reset_of, measured_tests, push_tests}
use Rattle.telecine.specs.History.{Push, picture, Call, push, reset, State, number_in, cadence_in, next, after}
use Rattle.telecine.specs.History.{number_of, cadence_of, last_parity, seen_of, seens, frames_of, run_of, refusal_tests, refusal_of, taken}

-- ---- demand 3

-- Take any pushes and resets from a fresh detector, refused calls anywhere among them and the store lent back as it was left. The cadence that a
-- frame gets, if it is not refused, is what the demand says of it and its run.
abbrev pub ThirdDemand : Type 0
ThirdDemand =
    (store : List ℕ) (u : Push) (earlier : List Call) → number_of store u earlier ≡ 0
    → Third (frames_of (taken (length store) earlier)) (run_of (push u ∷ taken (length store) earlier)) (cadence_of store u earlier)

-- ---- runs

-- A frame contradicts when it can be compared, its predecessor, with no reset between, met demand 3 with phase p, and it is neither still
-- nor expected by p.
pub record Contradicts (u : Push) (earlier : List Call) : Type 0 where
  pub symbol : Symbol
  pub compared : seen_of u earlier ≡ Some symbol
  pub contradicting : lock.Contradicts symbol (seens earlier)

-- A run starts fresh, after reset, after a frame that cannot be compared, or after a contradicting one. These two kinds belong to no run.
-- Any other frame makes the run of its predecessor longer.
pub record RunGrows (u : Push) (earlier : List Call) : Type 0 where
  pub fresh : run_of [] ≡ []
  pub anew : run_of (reset ∷ earlier) ≡ []
  pub not_comparable : seen_of u earlier ≡ None → run_of (push u ∷ earlier) ≡ []
  pub contradicting : Contradicts u earlier → run_of (push u ∷ earlier) ≡ []
  pub longer :
      (s : Symbol) → seen_of u earlier ≡ Some s → (Contradicts u earlier → ⊥)
      → run_of (push u ∷ earlier) ≡ frame_of (frames_of earlier) s ∷ run_of earlier

abbrev pub Runs : Type 0
Runs = (u : Push) (earlier : List Call) → RunGrows u earlier

-- The frames of a run have consecutive numbers: one that k frames of the run came after has the newest frame's number less k.
abbrev pub RunConsecutive : Type 0
RunConsecutive =
    (calls : List Call) (f : Frame) (earlier later : List Frame) → run_of calls ≡ later ++ (f ∷ earlier) → f.number + length later + 1 ≡ frames_of calls

-- ---- refusals

-- What a push gets is known from the frames before it that were taken, and the length of the store.
abbrev pub RefusalKnown : Type 0
RefusalKnown = (store : List ℕ) (u : Push) (earlier : List Call) → number_of store u earlier ≡ refusal_of (length store) u (taken (length store) earlier)

-- It is 0 exactly when no number applies, and n exactly when n applies and no lower one does: after a history, and on any detector.
abbrev pub RefusalSays : Type 0
RefusalSays = (room : ℕ) (u : Push) (earlier : List Call) → Says (refusal_tests room u earlier)

abbrev pub PushSays : Type 0
PushSays = (d : Detector) (s : Shape) (bytes room : ℕ) → Says (push_tests d s bytes room)

abbrev pub MeasuredSays : Type 0
MeasuredSays = (d : Detector) → Says (measured_tests d)

-- A refused push leaves any detector and any store as they were: also a store of another length than the history's, so that no refused call is
-- outside the demand.
abbrev pub RefusedLeaves : Type 0
RefusedLeaves = (state : State) (u : Push) → (number_in state u ≡ 0 → ⊥) → next state (push u) ≡ state

-- So refused calls count for nothing.
abbrev pub RefusedCountsNothing : Type 0
RefusedCountsNothing = (store : List ℕ) (calls : List Call) → after store calls ≡ after store (taken (length store) calls)

-- ---- stray bits

-- Two pictures of one shape, one length and the same codes get the same and leave the same, whatever their stray bits and whatever came before.
abbrev pub CodesSettle : Type 0
CodesSettle =
    (state : State) (plane plane' : List ℕ) (s : Shape) (first : Parity) → length plane ≡ length plane'
    → ((x y : ℕ) → x < s.width → y < s.height → code_of plane s x y ≡ code_of plane' s x y)
    → (number_in state (picture plane s first) ≡ number_in state (picture plane' s first))
    × (cadence_in state (picture plane s first) ≡ cadence_in state (picture plane' s first))
    × (next state (push (picture plane s first)) ≡ next state (push (picture plane' s first)))

-- ---- the other calls

-- `locked` says whether the newest frame met demand 3 with some phase.
abbrev pub LockedSays : Type 0
LockedSays =
    (store : List ℕ) (calls : List Call)
    → (locked_of (after store calls).detector.lock ≡ true) ↔ ((p : ℕ) × (p < 5) × Meets p (run_of (taken (length store) calls)))

-- `predict` speaks of the phase and the lock frame of the run: at = frames taken + ahead.
abbrev pub PredictSays : Type 0
PredictSays =
    (store : List ℕ) (calls : List Call) (ahead : ℕ)
    → let run = run_of (taken (length store) calls) in
    predict_cadence (after store calls).detector.lock ahead ≡ foretold (phase_of run) (lock_frame run) (frames_of (taken (length store) calls) + ahead)

-- A reset forgets all but the last parity: with the same parity remembered, and a store of the same length, any later push gets the same,
-- whatever came before the reset and whatever the store held.
abbrev pub ResetForgets : Type 0
ResetForgets =
    (store other : List ℕ) (u : Push) (later earlier before : List Call) → length store ≡ length other
    → last_parity (taken (length store) earlier) ≡ last_parity (taken (length other) before)
    → (number_of store u (later ++ (reset ∷ earlier)) ≡ number_of other u (later ++ (reset ∷ before)))
    × (cadence_of store u (later ++ (reset ∷ earlier)) ≡ cadence_of other u (later ++ (reset ∷ before)))

-- A reset detector that remembers no parity is fresh.
abbrev pub ResetIsFresh : Type 0
ResetIsFresh = (d : Detector) → d.last ≡ None → reset_of d ≡ fresh_detector

-- What a push promises leaves no other result.
abbrev pub PushedSettled : Type 0
PushedSettled =
    (a b : Pushed) → a.detector ≡ b.detector → no_of a.answer ≡ no_of b.answer → values_of a.answer ≡ values_of b.answer → a ≡ b
