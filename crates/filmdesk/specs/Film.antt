-- Counts and the detector by number (docs/RULES.md, "Blocks and symbols", "What the desk gets back"). A state shorter than 96 bytes is a lent
-- input that is too short, 6; where it is only written, an output, 7.
use Rattle.std.specs.Prelude.{ℕ, ◌*◌, Bool, cond, ◌&&◌, List, [], ◌∷◌, Option, Some, None, leb, eqb}
use Rattle.laws.specs.Refusal.{lowest}
use Rattle.plane.specs.declared.Shape.{Shape}
use Rattle.plane.specs.Plane.{good_shape, plane_bytes, grid_shape}
use Rattle.numbers.specs.declared.GridNumbers.{GridNumbers}
use Rattle.numbers.specs.Numbers.{grid_named}
use Rattle.block.specs.Answer.{count_tests}
use Rattle.telecine.specs.declared.Measured.{Measured}
use Rattle.telecine.specs.declared.Detector.{Detector}
use Rattle.telecine.specs.Detector.{kept_bytes, measured_tests}
use Rattle.filmdesk.specs.Kept.{state_bytes}

-- the shape that the host's numbers give, as they are: codes are not shifted
abbrev pub picture_named : GridNumbers → Shape
picture_named n = grid_shape (grid_named n)

-- 3: the parity names nothing; then as for `block::count`
abbrev pub busy_tests : GridNumbers → ℕ → ℕ → ℕ → List (ℕ × Bool)
busy_tests n bytes room parity = (3, leb parity 1) ∷ count_tests (picture_named n) bytes room

abbrev pub busy_no : GridNumbers → ℕ → ℕ → ℕ → ℕ
busy_no n bytes room parity = lowest (busy_tests n bytes room parity)

abbrev pub new_tests : ℕ → List (ℕ × Bool)
new_tests state = (7, leb state_bytes state) ∷ []

abbrev pub new_no : ℕ → ℕ
new_no state = lowest (new_tests state)

-- of a call that reads the state and refuses nothing else
abbrev pub state_tests : ℕ → List (ℕ × Bool)
state_tests state = (6, leb state_bytes state) ∷ []

abbrev pub state_no : ℕ → ℕ
state_no state = lowest (state_tests state)

abbrev pub predict_state_tests : ℕ → ℕ → List (ℕ × Bool)
predict_state_tests state ahead = (6, leb state_bytes state) ∷ (10, leb ahead 1000000) ∷ []

abbrev pub predict_state_no : ℕ → ℕ → ℕ
predict_state_no state ahead = lowest (predict_state_tests state ahead)

-- present 0 is no counts, 1 those that follow
abbrev pub measured_named : ℕ → ℕ → ℕ → ℕ → ℕ → Option Measured
measured_named present busy total other-busy other-total =
    cond (eqb present 0) None (Some (record { leading = record { busy = busy; total = total }; trailing = record { busy = other-busy; total = other-total } }))

-- 3: parity or present is neither 0 nor 1
abbrev pub measured_state_tests : ℕ → ℕ → ℕ → Detector → List (ℕ × Bool)
measured_state_tests parity present state d = (3, leb parity 1 && leb present 1) ∷ (6, leb state_bytes state) ∷ measured_tests d

abbrev pub measured_state_no : ℕ → ℕ → ℕ → Detector → ℕ
measured_state_no parity present state d = lowest (measured_state_tests parity present state d)

-- 3: the parity names nothing. 6: also where the state is too short.
abbrev pub push_state_tests : GridNumbers → ℕ → ℕ → ℕ → ℕ → Detector → List (ℕ × Bool)
push_state_tests n parity bytes room state d =
    (3, leb parity 1)
    ∷ (4, good_shape (picture_named n))
    ∷ (6, leb state_bytes state && leb (plane_bytes (picture_named n)) bytes && leb (kept_bytes d.kept) room)
    ∷ (7, leb (n.height * n.width) room)
    ∷ measured_tests d

abbrev pub push_state_no : GridNumbers → ℕ → ℕ → ℕ → ℕ → Detector → ℕ
push_state_no n parity bytes room state d = lowest (push_state_tests n parity bytes room state d)
