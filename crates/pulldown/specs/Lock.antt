-- What the functions of `Lock` give, on every value that the struct can hold (docs/RULES.md, "Runs, phases, cadence", "What the desk gets
-- back", 9 and 10, and "Forms that must change": the ring). Numbers that no history reaches are brought into range here as in the code:
-- places are taken modulo 15, numbers in the ring stop at 3, a phase from 5 on is none. Claims has what comes of it after a history.
use Rattle.std.specs.Prelude.{ℕ, zero, suc, ◌+◌, ◌-◌, ◌%◌, min, Bool, cond, ◌&&◌, List, [], ◌∷◌, get_or, set, replicate, leb, ltb, Option, Some, None}
use Rattle.laws.specs.Refusal.{lowest, written}
use Rattle.field.specs.declared.Cadence.{Cadence}
use Rattle.pulldown.specs.declared.Symbol.{Symbol}
use Rattle.pulldown.specs.declared.Symbol.TheVariants.{Still, Moved, RepeatFirst, RepeatSecond}
use Rattle.pulldown.specs.declared.Lock.{Lock}
use Rattle.pulldown.specs.declared.Course.{Course}
use Rattle.pulldown.specs.Symbols.{symbol_number, same_symbol}
use Rattle.pulldown.specs.Runs.{Frame, frame_of, step_of, agrees, first_phase, contradicts, cadence_by, foretold}

-- ---- the ring

-- the symbol that a number of the ring stands for
abbrev pub symbol_at : ℕ → Symbol
symbol_at number = get_or (Still ∷ Moved ∷ RepeatFirst ∷ RepeatSecond ∷ []) (min number 3) Still

-- the newest `held` frames of a ring, the newest of which has number n and stands at `place`
abbrev pub window : List ℕ → ℕ → ℕ → ℕ → List Frame
window ring place n zero = []
window ring place n (suc held) = frame_of n (symbol_at (get_or ring place 0)) ∷ window ring ((place + 14) % 15) (n - 1) held

-- ---- a frame that is taken

-- the phase that a window agrees with; 5 for none
unfoldable pub candidate_of : List Frame → ℕ
candidate_of frames = first_phase (λ p. agrees p frames)

-- the phase that is locked where there was none: the window's, if frame n is at step 0 or 1 of it
unfoldable pub locked_by : List Frame → ℕ → ℕ
locked_by frames n = cond (ltb (candidate_of frames) 5 && ltb (step_of (candidate_of frames) n) 2) (candidate_of frames) 5

-- the phase after a frame, by the window with that frame in it and the phase before
unfoldable pub phase_after : List Frame → ℕ → Frame → ℕ
phase_after frames p f = cond (contradicts p f) 5 (cond (ltb p 5) p (locked_by frames f.number))

-- the stills in a row up to a frame, counted to 12
abbrev pub stills_after : ℕ → Symbol → ℕ
stills_after stills s = cond (same_symbol s Still) (min 12 (stills + 1)) 0

-- the place that a symbol takes, the ring with it, and how many of the ring's symbols are then of the run
abbrev pub place : Lock → ℕ
place l = l.course.next % 15

abbrev pub ring_with : Lock → Symbol → List ℕ
ring_with l s = set l.ring (place l) (symbol_number s)

abbrev pub held_with : Lock → ℕ
held_with l = min 15 (l.course.held + 1)

abbrev pub window_with : Lock → Symbol → List Frame
window_with l s = window (ring_with l s) (place l) l.course.taken (held_with l)

-- the phase before a frame, unless that is the twelfth still in a row
abbrev pub phase_left : Lock → Symbol → ℕ
phase_left l s = cond (ltb (stills_after l.course.stills s) 12) l.course.phase 5

-- A symbol that contradicts leaves nothing in the window, not even itself.
abbrev pub with_symbol : Lock → Symbol → Lock
with_symbol l s = record {
  ring = ring_with l s;
  course = record {
    next = (place l + 1) % 15;
    held = cond (contradicts (phase_left l s) (frame_of l.course.taken s)) 0 (held_with l);
    taken = l.course.taken + 1;
    phase = phase_after (window_with l s) (phase_left l s) (frame_of l.course.taken s);
    since = cond (ltb (phase_left l s) 5) l.course.since l.course.taken;
    stills = stills_after l.course.stills s;
  };
}

-- A frame that cannot be compared ends the run.
abbrev pub without_symbol : Lock → Lock
without_symbol l = record {
  ring = l.ring;
  course = record { next = l.course.next; held = 0; taken = l.course.taken + 1; phase = 5; since = l.course.since; stills = 0 };
}

unfoldable pub advance_of : Lock → Option Symbol → Lock
advance_of l None = without_symbol l
advance_of l (Some s) = with_symbol l s

-- ---- the calls

abbrev pub fresh_lock : Lock
fresh_lock = record { ring = replicate 15 0; course = record { next = 0; held = 0; taken = 0; phase = 5; since = 0; stills = 0 } }

abbrev pub locked_of : Lock → Bool
locked_of l = ltb l.course.phase 5

-- a lock by its ring and its course
abbrev pub lock_with : List ℕ → Course → Lock
lock_with ring c = record { ring = ring; course = c }

-- 9: a push comes when 4,000,000,000 frames have been taken since fresh or reset
abbrev pub push_no : Lock → ℕ
push_no l = lowest ((9, ltb l.course.taken 4000000000) ∷ [])

-- the cadence that a push gives
abbrev pub push_cadence : Lock → Option Symbol → Cadence
push_cadence l s = cadence_by (advance_of l s).course.phase l.course.taken

-- the lock that a push hands back
abbrev pub push_lock : Lock → Option Symbol → Lock
push_lock l s = written (push_no l) (advance_of l s) l

-- 10: `predict` is asked more than 1,000,000 ahead
abbrev pub predict_no : ℕ → ℕ
predict_no ahead = lowest ((10, leb ahead 1000000) ∷ [])

-- the cadence that `predict` gives; no history takes more than 4,000,000,000 frames
abbrev pub predict_cadence : Lock → ℕ → Cadence
predict_cadence l ahead = foretold l.course.phase l.course.since (min l.course.taken 4000000000 + ahead)

-- ---- histories

-- the lock after pushes to a fresh one, of which these were seen
abbrev pub lock_of : List (Option Symbol) → Lock
lock_of [] = fresh_lock
lock_of (s ∷ earlier) = push_lock (lock_of earlier) s
