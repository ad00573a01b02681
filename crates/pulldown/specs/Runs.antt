-- Runs, phases, lock frames and cadences (docs/RULES.md, "Runs, phases, cadence", and demand 3), from the frames alone. Lists of frames,
-- and of what was seen of frames, are newest first. Phases are 0 to 4; 5 stands for none.
use Rattle.std.specs.Prelude.{ℕ, suc, ◌+◌, ◌-◌, ◌%◌, ◌<◌, ◌≤◌, ◌≡◌, Bool, true, false, cond, not, ◌&&◌, ◌||◌, List, [], ◌∷◌, ◌++◌, length, take, drop, leb, ltb, Option, Some, None}
use Rattle.field.specs.declared.Cadence.{Cadence}
use Rattle.field.specs.declared.Cadence.TheVariants as cadence
use Rattle.pulldown.specs.declared.Symbol.{Symbol}
use Rattle.pulldown.specs.declared.Symbol.TheVariants.{Still, Moved, RepeatFirst, RepeatSecond}
use Rattle.pulldown.specs.Symbols.{same_symbol, one_if}
use Rattle.pulldown.specs.Table.{expected_at, cadence_at}

-- A frame that can be compared. Frames are numbered from 0 after fresh or reset.
pub record Frame : Type 0 where
  pub number : ℕ
  pub symbol : Symbol

abbrev pub frame_of : ℕ → Symbol → Frame
frame_of n s = record { number = n; symbol = s }

-- ---- steps

-- frame n is at step (n - p) mod 5 of phase p; the 5 keeps n - p from going below 0
abbrev pub step_of : ℕ → ℕ → ℕ
step_of p n = (n + 5 - p) % 5

-- the frame is still, or what phase p expects
unfoldable pub still_or_expected : ℕ → Frame → Bool
still_or_expected p f = same_symbol f.symbol Still || same_symbol f.symbol (expected_at (step_of p f.number))

abbrev pub every_frame : (Frame → Bool) → List Frame → Bool
every_frame passes [] = true
every_frame passes (f ∷ frames) = passes f && every_frame passes frames

abbrev pub how_many : Symbol → List Frame → ℕ
how_many s [] = 0
how_many s (f ∷ frames) = one_if f.symbol s + how_many s frames

-- how many stills in a row end at the newest frame
abbrev pub stills_in_a_row : List Frame → ℕ
stills_in_a_row [] = 0
stills_in_a_row (f ∷ frames) = cond (same_symbol f.symbol Still) (suc (stills_in_a_row frames)) 0

-- ---- demand 3

-- The newest frame of a run, n, meets the four tests with phase p.
pub record Meets (p : ℕ) (run : List Frame) : Type 0 where
  -- some frame m in n's run and not after n: the run's frames before it, and those after it up to n
  pub m : Frame
  pub earlier : List Frame
  pub later : List Frame
  pub in_run : run ≡ later ++ (m ∷ earlier)
  -- 1: the last 15 frames of the run up to m (all, if fewer) are each still or what the phase expects,
  pub window : every_frame (still_or_expected p) (take 15 (m ∷ earlier)) ≡ true
  -- with at least two first-field repeats, two second-field repeats and four moved
  pub firsts : 2 ≤ how_many RepeatFirst (take 15 (m ∷ earlier))
  pub seconds : 2 ≤ how_many RepeatSecond (take 15 (m ∷ earlier))
  pub moved : 4 ≤ how_many Moved (take 15 (m ∷ earlier))
  -- 2: frame m is at step 0 or 1
  pub head : step_of p m.number < 2
  -- 3: each later frame up to n is still or expected
  pub expected : every_frame (still_or_expected p) later ≡ true
  -- 4: no twelve stills in a row end after m and by n; `drop k run` is the run up to the later frame that came k before n
  pub awake : (k : ℕ) → k < length later → stills_in_a_row (drop k run) < 12

-- The same as a test that can be run. First, test 1 of a window:
unfoldable pub agrees : ℕ → List Frame → Bool
agrees p window =
    every_frame (still_or_expected p) window
    && (leb 2 (how_many RepeatFirst window) && leb 2 (how_many RepeatSecond window) && leb 4 (how_many Moved window))

-- tests 1 and 2 where m is the newest frame
unfoldable pub locks_at : ℕ → List Frame → Bool
locks_at p [] = false
locks_at p (m ∷ earlier) = agrees p (take 15 (m ∷ earlier)) && ltb (step_of p m.number) 2

-- m is n itself, or it came before n and n passes tests 3 and 4
unfoldable pub meets : ℕ → List Frame → Bool
meets p [] = false
meets p (n ∷ earlier) =
    locks_at p (n ∷ earlier) || (still_or_expected p n && ltb (stills_in_a_row (n ∷ earlier)) 12 && meets p earlier)

-- ---- the phase and the lock frame of a run

-- the first of the phases that passes, and 5 where none does
unfoldable pub first_phase : (ℕ → Bool) → ℕ
first_phase passes = cond (passes 0) 0 (cond (passes 1) 1 (cond (passes 2) 2 (cond (passes 3) 3 (cond (passes 4) 4 5))))

-- the phase that the newest frame meets; no other meets it too (Claims, `OnePhase`)
unfoldable pub phase_of : List Frame → ℕ
phase_of run = first_phase (λ p. meets p run)

-- the frame at which the phase was locked: the last before which none was met
abbrev pub lock_frame : List Frame → ℕ
lock_frame [] = 0
lock_frame (f ∷ earlier) = cond (ltb (phase_of earlier) 5) (lock_frame earlier) f.number

-- ---- runs

-- there is a phase p, and the frame is neither still nor expected by it
unfoldable pub contradicts : ℕ → Frame → Bool
contradicts p f = ltb p 5 && not (still_or_expected p f)

-- A run goes on with a frame, unless that contradicts the phase which the frame before it met.
unfoldable pub go_on : Frame → List Frame → List Frame
go_on f run = cond (contradicts (phase_of run) f) [] (f ∷ run)

-- The run that the newest frame belongs to, of what was seen of each frame since fresh or reset. It is empty for the two kinds
-- that belong to none: a frame that cannot be compared, and one that contradicts. A run starts after these, and fresh.
abbrev pub run_of : List (Option Symbol) → List Frame
run_of [] = []
run_of (None ∷ earlier) = []
run_of (Some s ∷ earlier) = go_on (frame_of (length earlier) s) (run_of earlier)

-- ---- cadences

-- frame n's entry in the table; None for no phase
abbrev pub cadence_by : ℕ → ℕ → Cadence
cadence_by p n = cond (ltb p 5) (cadence_at (step_of p n)) cadence.None

-- What is foretold of frame `at` by a phase and its lock frame: None if `at` minus its step is no later than the lock frame, else the
-- step's cadence. No lock: None.
unfoldable pub foretold : ℕ → ℕ → ℕ → Cadence
foretold p lock at = cond (ltb p 5) (cond (leb (at - step_of p at) lock) cadence.None (cadence_at (step_of p at))) cadence.None
