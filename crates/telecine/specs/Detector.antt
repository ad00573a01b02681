-- What each call of the detector gives, on every value that its struct can hold (docs/RULES.md, "Blocks and symbols", "What the desk gets
-- back", 4, 6, 7 and 9, and "Forms that must change": the store). `locked` and `predict` are those of the lock (crate `pulldown`). Claims
-- has what comes of it over several calls.
use Rattle.std.specs.Prelude.{ℕ, ◌*◌, Bool, true, false, cond, not, ◌&&◌, List, [], ◌∷◌, leb, ltb, eqb, length, Option, Some, None}
use Rattle.laws.specs.Refusal.{lowest, when_done, written}
use Rattle.laws.specs.Rows.{over}
use Rattle.field.specs.declared.Cadence.{Cadence}
use Rattle.field.specs.declared.Parity.{Parity}
use Rattle.field.specs.declared.Parity.TheVariants as parity
use Rattle.field.specs.Field.{first_row_of, other_of}
use Rattle.plane.specs.declared.Shape.{Shape}
use Rattle.plane.specs.Plane.{good_shape, plane_bytes}
use Rattle.block.specs.Block.{kept_frame, busy_field, total_of, rows_of}
use Rattle.pulldown.specs.declared.Symbol.{Symbol}
use Rattle.pulldown.specs.declared.Lock.{Lock}
use Rattle.pulldown.specs.Symbols.{symbol_of}
use Rattle.pulldown.specs.Lock.{advance_of, fresh_lock}
use Rattle.pulldown.specs.Lock as lock
use Rattle.telecine.specs.declared.Kept.{Kept}
use Rattle.telecine.specs.declared.Detector.{Detector}
use Rattle.telecine.specs.declared.Measured.{Measured}

-- ---- fresh and reset
abbrev pub nothing_kept : Kept
nothing_kept = record { held = false; width = 0; height = 0; first = parity.Top }

abbrev pub fresh_detector : Detector
fresh_detector = record { lock = fresh_lock; kept = nothing_kept; last = None }

-- `push` forgets its kept frame at reset; `push_measured` still remembers the last parity after reset.
abbrev pub reset_of : Detector → Detector
reset_of d = record { lock = fresh_lock; kept = nothing_kept; last = d.last }

-- ---- what is seen of a frame
abbrev pub same_parity : Parity → Parity → Bool
same_parity a b = eqb (first_row_of a) (first_row_of b)

-- For `push_measured`, a frame cannot be compared when no frame came since fresh, when its leading parity differs from that of the last
-- frame of either kind, or when no counts are given.
abbrev pub led_by : Option Parity → Parity → Bool
led_by None first = false
led_by (Some p) first = same_parity p first

abbrev pub seen_measured : Option Parity → Parity → Option Measured → Option Symbol
seen_measured last first None = None
seen_measured last first (Some m) = cond (led_by last first) (Some (symbol_of m.leading.busy m.leading.total m.trailing.busy)) None

-- For `push`, a frame cannot be compared when no frame is kept, when its width, height or leading parity differs from the kept frame's, or
-- when its height is 1.
abbrev pub alike : ℕ → ℕ → Parity → Shape → Parity → Bool
alike width height led s first = eqb width s.width && eqb height s.height && same_parity led first && not (eqb s.height 1)

abbrev pub comparable : Kept → Shape → Parity → Bool
comparable k s first = k.held && alike k.width k.height k.first s first

-- the symbol of a picture, of which the field `first` leads, against the frame that a store keeps
unfoldable pub symbol_against : List ℕ → List ℕ → Shape → Parity → Symbol
symbol_against store plane s first =
    symbol_of (busy_field plane s store (first_row_of first)) (total_of s.width (rows_of s.height (first_row_of first)))
    (busy_field plane s store (first_row_of (other_of first)))

abbrev pub seen_picture : Kept → List ℕ → List ℕ → Shape → Parity → Option Symbol
seen_picture k store plane s first = cond (comparable k s first) (Some (symbol_against store plane s first)) None

-- ---- push_measured

-- 9: a push of either kind comes when the detector has taken 4,000,000,000 frames since fresh or reset
abbrev pub measured_tests : Detector → List (ℕ × Bool)
measured_tests d = (9, ltb d.lock.course.taken 4000000000) ∷ []

abbrev pub measured_no : Detector → ℕ
measured_no d = lowest (measured_tests d)

-- the last parity after a frame that `first` leads, by the lock before it
abbrev pub last_after : Lock → Option Parity → Parity → Option Parity
last_after l last first = written (lock.push_no l) (Some first) last

abbrev pub measured_cadence : Detector → Parity → Option Measured → Cadence
measured_cadence d first m = lock.push_cadence d.lock (seen_measured d.last first m)

abbrev pub measured_detector : Detector → Parity → Option Measured → Detector
measured_detector d first m =
    written (measured_no d) (record { lock = advance_of d.lock (seen_measured d.last first m); kept = d.kept; last = Some first }) d

-- ---- push

-- what a store needs for the kept frame, if there is one
abbrev pub kept_bytes : Kept → ℕ
kept_bytes k = cond k.held (k.height * k.width) 0

-- 4: the shape is outside the bounds. 6: the plane is shorter than its shape needs, or the store than the kept frame's. 7: the store is too
-- short for what is written now. 9: as for counts.
abbrev pub push_tests : Detector → Shape → ℕ → ℕ → List (ℕ × Bool)
push_tests d s bytes room =
    (4, good_shape s)
    ∷ (6, leb (plane_bytes s) bytes && leb (kept_bytes d.kept) room)
    ∷ (7, leb (s.height * s.width) room)
    ∷ measured_tests d

abbrev pub push_no : Detector → Shape → ℕ → ℕ → ℕ
push_no d s bytes room = lowest (push_tests d s bytes room)

abbrev pub push_cadence : Detector → List ℕ → List ℕ → Shape → Parity → Cadence
push_cadence d store plane s first = lock.push_cadence d.lock (seen_picture d.kept store plane s first)

-- the cadence where the picture is not refused
abbrev pub push_values : Detector → List ℕ → List ℕ → Shape → Parity → List Cadence
push_values d store plane s first = when_done (push_no d s (length plane) (length store)) (push_cadence d store plane s first)

-- the kept frame's shape after a picture
abbrev pub kept_as : Shape → Parity → Kept
kept_as s first = record { held = true; width = s.width; height = s.height; first = first }

abbrev pub push_detector : Detector → List ℕ → List ℕ → Shape → Parity → Detector
push_detector d store plane s first =
    written (push_no d s (length plane) (length store))
    (record { lock = advance_of d.lock (seen_picture d.kept store plane s first); kept = kept_as s first; last = Some first })
    d

-- the store is compared, and then overwritten
abbrev pub push_store : Detector → List ℕ → List ℕ → Shape → List ℕ
push_store d store plane s = written (push_no d s (length plane) (length store)) (over (kept_frame plane s) store) store
