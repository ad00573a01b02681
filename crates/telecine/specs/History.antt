-- Histories of calls on a fresh detector (docs/RULES.md, "Blocks and symbols", "Runs, phases, cadence", "What the desk gets back"). First what
-- the calls leave, with the store lent back as it was left; then the same from the frames alone: what was seen of each, its run, and what
-- is refused. Lists of calls are newest first.
use Rattle.std.specs.Prelude.{ℕ, ◌*◌, Bool, cond, List, [], ◌∷◌, leb, ltb, eqb, length, Option, Some, None}
use Rattle.laws.specs.Refusal.{lowest}
use Rattle.field.specs.declared.Cadence.{Cadence}
use Rattle.field.specs.declared.Parity.{Parity}
use Rattle.plane.specs.declared.Shape.{Shape}
use Rattle.plane.specs.Plane.{good_shape, plane_bytes}
use Rattle.block.specs.Block.{kept_frame}
use Rattle.pulldown.specs.declared.Symbol.{Symbol}
use Rattle.pulldown.specs.Runs.{Frame}
use Rattle.pulldown.specs.Runs as runs
use Rattle.telecine.specs.declared.Detector.{Detector}
use Rattle.telecine.specs.declared.Measured.{Measured}
use Rattle.telecine.specs.Detector.{fresh_detector, reset_of, alike, symbol_against, seen_measured, measured_no, measured_cadence, measured_detector}
use Rattle.telecine.specs.Detector.{push_no, push_cadence, push_detector, push_store}

-- a frame that is pushed: a picture with its shape and its leading parity, or counts with theirs
pub data Push : Type 0 where
  picture : List ℕ → Shape → Parity → Push
  measured : Parity → Option Measured → Push

pub data Call : Type 0 where
  push : Push → Call
  reset : Call

-- ---- by the calls

pub record State : Type 0 where
  pub detector : Detector
  pub store : List ℕ

-- the number that a push gets, and where that is 0 the cadence
abbrev pub number_in : State → Push → ℕ
number_in state (picture plane s first) = push_no state.detector s (length plane) (length state.store)
number_in state (measured first m) = measured_no state.detector

abbrev pub cadence_in : State → Push → Cadence
cadence_in state (picture plane s first) = push_cadence state.detector state.store plane s first
cadence_in state (measured first m) = measured_cadence state.detector first m

-- what a call leaves
abbrev pub next : State → Call → State
next state (push (picture plane s first)) = record {
  detector = push_detector state.detector state.store plane s first;
  store = push_store state.detector state.store plane s;
}
next state (push (measured first m)) = record { detector = measured_detector state.detector first m; store = state.store }
next state reset = record { detector = reset_of state.detector; store = state.store }

-- the same after calls on a fresh detector and a store of any contents
abbrev pub after : List ℕ → List Call → State
after store [] = record { detector = fresh_detector; store = store }
after store (call ∷ earlier) = next (after store earlier) call

abbrev pub number_of : List ℕ → Push → List Call → ℕ
number_of store u earlier = number_in (after store earlier) u

abbrev pub cadence_of : List ℕ → Push → List Call → Cadence
cadence_of store u earlier = cadence_in (after store earlier) u

-- ---- from the frames alone

-- the last picture since the last reset
pub data Last : Type 0 where
  none : Last
  last : List ℕ → Shape → Parity → Last

abbrev pub last_picture : List Call → Last
last_picture [] = none
last_picture (push (picture plane s first) ∷ earlier) = last plane s first
last_picture (push (measured first m) ∷ earlier) = last_picture earlier
last_picture (reset ∷ earlier) = none

-- the leading parity of the last frame of either kind since fresh
abbrev pub last_parity : List Call → Option Parity
last_parity [] = None
last_parity (push (picture plane s first) ∷ earlier) = Some first
last_parity (push (measured first m) ∷ earlier) = Some first
last_parity (reset ∷ earlier) = last_parity earlier

-- what is seen of a picture against the last one, as that is kept
abbrev pub seen_against : Last → List ℕ → Shape → Parity → Option Symbol
seen_against none plane s first = None
seen_against (last old t led) plane s first =
    cond (alike t.width t.height led s first) (Some (symbol_against (kept_frame old t) plane s first)) None

-- what is seen of a frame
abbrev pub seen_of : Push → List Call → Option Symbol
seen_of (picture plane s first) earlier = seen_against (last_picture earlier) plane s first
seen_of (measured first m) earlier = seen_measured (last_parity earlier) first m

-- what was seen of each frame since fresh or reset
abbrev pub seens : List Call → List (Option Symbol)
seens [] = []
seens (push u ∷ earlier) = seen_of u earlier ∷ seens earlier
seens (reset ∷ earlier) = []

-- how many frames there were since fresh or reset, which is the number of the next
abbrev pub frames_of : List Call → ℕ
frames_of calls = length (seens calls)

-- the run that the newest frame belongs to
abbrev pub run_of : List Call → List Frame
run_of calls = runs.run_of (seens calls)

-- What refuses a push, by the length of the store. 4: the shape is outside the bounds. 6: the plane is shorter than its shape needs. 7: the
-- store is too short for the frame. 9: 4,000,000,000 frames were taken since fresh or reset. A kept frame fits the store that it is in, so
-- that it never refuses one.
abbrev pub refusal_tests : ℕ → Push → List Call → List (ℕ × Bool)
refusal_tests room (measured first m) earlier = (9, ltb (frames_of earlier) 4000000000) ∷ []
refusal_tests room (picture plane s first) earlier =
    (4, good_shape s)
    ∷ (6, leb (plane_bytes s) (length plane))
    ∷ (7, leb (s.height * s.width) room)
    ∷ (9, ltb (frames_of earlier) 4000000000)
    ∷ []

abbrev pub refusal_of : ℕ → Push → List Call → ℕ
refusal_of room u earlier = lowest (refusal_tests room u earlier)

-- a history without the calls that are refused
abbrev pub taken : ℕ → List Call → List Call
taken room [] = []
taken room (push u ∷ earlier) = cond (eqb (refusal_of room u (taken room earlier)) 0) (push u ∷ taken room earlier) (taken room earlier)
taken room (reset ∷ earlier) = reset ∷ taken room earlier
