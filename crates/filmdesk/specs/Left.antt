-- What each call on a detector leaves in what the host lends: in the state, in the store, and in the byte that gets the answer. `number` is the number
-- that the call gets. The contracts cite these, and so do histories of calls.
use Rattle.std.specs.Prelude.{ℕ, List, Option}
use Rattle.laws.specs.Refusal.{written}
use Rattle.field.specs.Field.{parity_named, cadence_number}
use Rattle.pulldown.specs.Lock.{locked_of, predict_cadence}
use Rattle.telecine.specs.declared.Measured.{Measured}
use Rattle.telecine.specs.Detector.{fresh_detector, reset_of, measured_detector, measured_cadence, push_detector, push_cadence, push_store}
use Rattle.numbers.specs.declared.GridNumbers.{GridNumbers}
use Rattle.filmdesk.specs.Kept.{number_if, detector_in, keeping}
use Rattle.filmdesk.specs.Film.{picture_named}

-- ---- new, reset, locked, predict
abbrev pub new_state : ℕ → List ℕ → List ℕ
new_state number state = written number (keeping fresh_detector state) state

abbrev pub reset_state : ℕ → List ℕ → List ℕ
reset_state number state = written number (keeping (reset_of (detector_in state)) state) state

abbrev pub locked_byte : ℕ → List ℕ → ℕ → ℕ
locked_byte number state byte = written number (number_if (locked_of (detector_in state).lock)) byte

abbrev pub foretold_byte : ℕ → List ℕ → ℕ → ℕ → ℕ
foretold_byte number state ahead byte = written number (cadence_number (predict_cadence (detector_in state).lock ahead)) byte

-- ---- push_measured
abbrev pub measured_state : ℕ → List ℕ → ℕ → Option Measured → List ℕ
measured_state number state parity m = written number (keeping (measured_detector (detector_in state) (parity_named parity) m) state) state

abbrev pub measured_byte : ℕ → List ℕ → ℕ → Option Measured → ℕ → ℕ
measured_byte number state parity m byte = written number (cadence_number (measured_cadence (detector_in state) (parity_named parity) m)) byte

-- ---- push
abbrev pub pushed_state : ℕ → List ℕ → List ℕ → List ℕ → GridNumbers → ℕ → List ℕ
pushed_state number state store plane n parity =
    written number (keeping (push_detector (detector_in state) store plane (picture_named n) (parity_named parity)) state) state

abbrev pub pushed_store : ℕ → List ℕ → List ℕ → List ℕ → GridNumbers → List ℕ
pushed_store number state store plane n = written number (push_store (detector_in state) store plane (picture_named n)) store

abbrev pub pushed_byte : ℕ → List ℕ → List ℕ → List ℕ → GridNumbers → ℕ → ℕ → ℕ
pushed_byte number state store plane n parity byte =
    written number (cadence_number (push_cadence (detector_in state) store plane (picture_named n) (parity_named parity))) byte
