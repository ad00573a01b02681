-- What is claimed of runs and of the lock (docs/RULES.md, "Runs, phases, cadence", "What the desk gets back", and demand 3).
-- proofs/Claims.antt proves each claim under its name in small letters. Lists are newest first. A reset gives the fresh lock, so a
-- history starts fresh here.
use Rattle.std.specs.Prelude.{ℕ, ◌+◌, min, ◌<◌, ◌≤◌, ◌≡◌, ◌↔◌, true, false, List, [], ◌∷◌, ◌++◌, length, drop, Option, Some, None}
use Rattle.field.specs.declared.Cadence.{Cadence}
use Rattle.field.specs.declared.Cadence.TheVariants as cadences
use Rattle.pulldown.specs.declared.Symbol.{Symbol}
use Rattle.pulldown.specs.Table.{cadence_at}
use Rattle.pulldown.specs.Runs.{Frame, frame_of, step_of, still_or_expected, Meets, meets, phase_of, lock_frame, run_of, foretold}
use Rattle.pulldown.specs.Lock.{locked_of, push_no, push_cadence, push_lock, predict_no, predict_cadence, lock_of}
use Rattle.pulldown.specs.Codes.{seen_code, seen_by}

-- ---- demand 3

-- what the demand says of frame n, the newest of a run, and the cadence that it gets
pub record Third (n : ℕ) (run : List Frame) (cadence : Cadence) : Type 0 where
  -- it is other than None exactly when some phase meets the four tests,
  pub exactly : (cadence ≡ cadences.None → ⊥) ↔ ((p : ℕ) × (p < 5) × Meets p run)
  -- and then it is the table entry of that phase's step; only one phase can meet them (`OnePhase`)
  pub entry : (p : ℕ) → p < 5 → Meets p run → cadence ≡ cadence_at (step_of p n)

-- Take any frames pushed to a fresh lock, and one more with fewer than 4,000,000,000 before it: it is not refused, and the cadence that
-- it gets is what the demand says.
abbrev pub ThirdDemand : Type 0
ThirdDemand =
    (s : Option Symbol) (earlier : List (Option Symbol)) → length earlier < 4000000000
    → (push_no (lock_of earlier) ≡ 0) × Third (length earlier) (run_of (s ∷ earlier)) (push_cadence (lock_of earlier) s)

-- Only one phase can meet the four tests, whatever the frames.
abbrev pub OnePhase : Type 0
OnePhase = (p q : ℕ) (run : List Frame) → p < 5 → q < 5 → Meets p run → Meets q run → p ≡ q

-- The test that can be run decides the four tests.
abbrev pub MeetsDecided : Type 0
MeetsDecided = (p : ℕ) (run : List Frame) → (meets p run ≡ true) ↔ Meets p run

-- ---- runs, phases and lock frames

-- A frame contradicts when it can be compared, its predecessor, with no reset between, met demand 3 with phase p, and it is neither
-- still nor expected by p.
pub record Contradicts (s : Symbol) (earlier : List (Option Symbol)) : Type 0 where
  pub p : ℕ
  pub below : p < 5
  pub met : Meets p (run_of earlier)
  pub neither : still_or_expected p (frame_of (length earlier) s) ≡ false

-- A run starts fresh, after a frame that cannot be compared, or after a contradicting one; these two kinds belong to no run. Any other
-- frame makes the run of its predecessor longer.
pub record RunGrows (s : Symbol) (earlier : List (Option Symbol)) : Type 0 where
  pub fresh : run_of [] ≡ []
  pub not_comparable : run_of (None ∷ earlier) ≡ []
  pub contradicting : Contradicts s earlier → run_of (Some s ∷ earlier) ≡ []
  pub longer : (Contradicts s earlier → ⊥) → run_of (Some s ∷ earlier) ≡ frame_of (length earlier) s ∷ run_of earlier

abbrev pub Runs : Type 0
Runs = (s : Symbol) (earlier : List (Option Symbol)) → RunGrows s earlier

-- The frames of a run have consecutive numbers: one that k frames of the run came after has the newest frame's number less k.
abbrev pub RunConsecutive : Type 0
RunConsecutive =
    (seens : List (Option Symbol)) (f : Frame) (earlier later : List Frame) → run_of seens ≡ later ++ (f ∷ earlier) → f.number + length later + 1 ≡ length seens

-- The phase of a run is the one that its newest frame meets, and 5 where it meets none.
abbrev pub PhaseSays : Type 0
PhaseSays =
    (run : List Frame)
    → ((p : ℕ) → p < 5 → (phase_of run ≡ p) ↔ Meets p run) × ((phase_of run ≡ 5) ↔ ((p : ℕ) → p < 5 → Meets p run → ⊥))

-- The lock frame m of a run that meets phase p: the frame before it met no phase, and every frame from it on meets p.
pub record Locked (p : ℕ) (run : List Frame) : Type 0 where
  pub m : Frame
  pub earlier : List Frame
  pub later : List Frame
  pub in_run : run ≡ later ++ (m ∷ earlier)
  pub number : lock_frame run ≡ m.number
  pub unmet : (q : ℕ) → q < 5 → Meets q earlier → ⊥
  pub met : (k : ℕ) → k ≤ length later → Meets p (drop k run)

abbrev pub LockFrameSays : Type 0
LockFrameSays = (p : ℕ) (run : List Frame) → p < 5 → Meets p run → Locked p run

-- ---- the calls

-- `locked` says whether the newest frame met demand 3 with some phase.
abbrev pub LockedSays : Type 0
LockedSays =
    (seens : List (Option Symbol)) → length seens ≤ 4000000000
    → (locked_of (lock_of seens) ≡ true) ↔ ((p : ℕ) × (p < 5) × Meets p (run_of seens))

-- `predict` speaks of the phase and the lock frame of the run.
abbrev pub PredictSays : Type 0
PredictSays =
    (seens : List (Option Symbol)) (ahead : ℕ) → length seens ≤ 4000000000
    → predict_cadence (lock_of seens) ahead ≡ foretold (phase_of (run_of seens)) (lock_frame (run_of seens)) (length seens + ahead)

-- A push gives 9 exactly when 4,000,000,000 frames were taken since fresh or reset, and else 0. With 9 it hands back the old lock.
pub record PushNumbers (earlier : List (Option Symbol)) (s : Option Symbol) : Type 0 where
  pub refused : (push_no (lock_of earlier) ≡ 9) ↔ ((lock_of earlier).course.taken ≡ 4000000000)
  pub done : (push_no (lock_of earlier) ≡ 0) ↔ ((lock_of earlier).course.taken < 4000000000)
  pub taken : (lock_of earlier).course.taken ≡ min (length earlier) 4000000000
  pub unchanged : push_no (lock_of earlier) ≡ 9 → push_lock (lock_of earlier) s ≡ lock_of earlier

abbrev pub PushSays : Type 0
PushSays = (earlier : List (Option Symbol)) (s : Option Symbol) → PushNumbers earlier s

-- `predict` gives 10 exactly when it is asked more than 1,000,000 ahead, and else 0.
abbrev pub PredictNo : Type 0
PredictNo = (ahead : ℕ) → ((predict_no ahead ≡ 10) ↔ (1000000 < ahead)) × ((predict_no ahead ≡ 0) ↔ (ahead ≤ 1000000))

-- The code of what was seen of a frame stands for just that.
abbrev pub CodeSeen : Type 0
CodeSeen = (s : Option Symbol) → seen_by (seen_code s) ≡ s
