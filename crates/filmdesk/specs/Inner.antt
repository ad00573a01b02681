-- What inner functions promise. Only their contracts cite it.
use Rattle.std.specs.Prelude.{ℕ, Bool, List, [], ◌∷◌, Option, leb}
use Rattle.field.specs.declared.Parity.{Parity}
use Rattle.plane.specs.declared.Shape.{Shape}
use Rattle.plane.specs.Plane.{good_shape}
use Rattle.pulldown.specs.declared.Course.{Course}
use Rattle.pulldown.specs.Lock.{lock_with}
use Rattle.telecine.specs.declared.Detector.{Detector}
use Rattle.telecine.specs.declared.Kept.{Kept}
use Rattle.filmdesk.specs.Kept.{state_bytes}

-- what refuses a picture before the detector in the state is looked at
abbrev pub first_tests : ℕ → Shape → ℕ → List (ℕ × Bool)
first_tests parity s state = (3, leb parity 1) ∷ (4, good_shape s) ∷ (6, leb state_bytes state) ∷ []

-- a detector by its parts
abbrev pub detector_with : List ℕ → Course → Kept → Option Parity → Detector
detector_with ring c kept last = record { lock = lock_with ring c; kept = kept; last = last }
