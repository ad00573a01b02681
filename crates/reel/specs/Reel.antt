-- What a reel file says (docs/RULES.md, "Reel file and listing"): its frames in order, and how it ends, from the bytes alone, section after
-- section. Any list of bytes whatever says something.
use Rattle.std.specs.Prelude.{ℕ, zero, suc, ◌+◌, ◌*◌, Bool, cond, ◌||◌, List, [], ◌∷◌, Option, Some, None, eqb, leb, length, take, drop, replicate}
use Rattle.std.specs.Option.{is_some}
use Rattle.laws.specs.Refusal.{lowest}
use Rattle.field.specs.declared.Cadence.{Cadence}
use Rattle.field.specs.declared.Cadence.TheVariants as cadence
use Rattle.field.specs.Field.{parity_named}
use Rattle.plane.specs.declared.Grid.{Grid}
use Rattle.plane.specs.Plane.{good_shape, grid_shape}
use Rattle.pulldown.specs.Lock.{locked_of}
use Rattle.telecine.specs.Detector.{fresh_detector}
use Rattle.telecine.specs.History.{State, Push, picture, push, number_in, cadence_in, next}
use Rattle.entry.specs.Entry.{word_at, entry_of, good_entry, push_in}
use Rattle.reel.specs.declared.Pictured.{Pictured}
use Rattle.reel.specs.declared.Tally.{Tally}
use Rattle.reel.specs.declared.Said.{Said}
use Rattle.reel.specs.declared.Said.TheVariants.{Frame, Totals, Fault}

-- ---- a unit that was read whole, and the tests that it has to pass

-- The first count is that of the shape's numbers: 0 or 5.
abbrev pub shape_count_tests : ℕ → List (ℕ × Bool)
shape_count_tests n = (3, eqb n 0 || eqb n 5) ∷ []

-- The numbers are width, height, depth, stride, parity.
unfoldable pub shape_in : List ℕ → Grid
shape_in u = record { width = word_at u 0; height = word_at u 2; depth = word_at u 4; stride = word_at u 6 }

abbrev pub shape_tests : List ℕ → List (ℕ × Bool)
shape_tests u = (3, leb (word_at u 8) 1) ∷ (4, good_shape (grid_shape (shape_in u))) ∷ []

-- what pictures look like
abbrev pub pictured_in : List ℕ → Pictured
pictured_in u = record { shape = shape_in u; first = parity_named (word_at u 8) }

-- what they look like where it may be that no shape is given; then no picture is counted, and numbers of 0 stand for those that it has not
abbrev pub shown : Option Pictured → Pictured
shown None = record { shape = record { width = 0; height = 0; depth = 0; stride = 0 }; first = parity_named 0 }
shown (Some p) = p

abbrev pub entry_tests : List ℕ → List (ℕ × Bool)
entry_tests u = (3, good_entry (entry_of u)) ∷ []

-- Pictures have stride * height bytes. No shape means no pictures; a picture is at most 16,384 bytes.
abbrev pub picture_bytes : Option Pictured → ℕ
picture_bytes p = (shown p).shape.height * (shown p).shape.stride

abbrev pub picture_count_tests : Option Pictured → ℕ → List (ℕ × Bool)
picture_count_tests p n = (3, eqb n 0 || is_some p) ∷ (7, eqb n 0 || leb (picture_bytes p) 16384) ∷ []

-- ---- totals

abbrev pub no_frames : Tally
no_frames = record { whole = 0; drop = 0; spanning = 0; none = 0 }

abbrev pub tallied : Cadence → Tally → Tally
tallied cadence.Whole t = record { whole = t.whole + 1; drop = t.drop; spanning = t.spanning; none = t.none }
tallied cadence.Drop t = record { whole = t.whole; drop = t.drop + 1; spanning = t.spanning; none = t.none }
tallied cadence.Spanning t = record { whole = t.whole; drop = t.drop; spanning = t.spanning + 1; none = t.none }
tallied cadence.None t = record { whole = t.whole; drop = t.drop; spanning = t.spanning; none = t.none + 1 }

-- ---- the file, from its end to its start: each section is given the bytes that are left

-- A unit of k bytes is read whole, or the file is cut short: 6.
unfoldable pub whole : ℕ → (List ℕ → List ℕ → List Said) → List ℕ → List Said
whole k more bytes = cond (leb k (length bytes)) (more (take k bytes) (drop k bytes)) (Fault 6 ∷ [])

-- Then it is judged, and the lowest number ends the file.
abbrev pub judged : List (ℕ × Bool) → List Said → List Said
judged tests more = cond (eqb (lowest tests) 0) more (Fault (lowest tests) ∷ [])

-- A frame is pushed: its number, its cadence, and whether there is a lock after it.
abbrev pub frame : State → Tally → Push → (State → Tally → List Said) → List Said
frame state t u more =
    cond (eqb (number_in state u) 0)
    (Frame state.detector.lock.course.taken (cadence_in state u) (locked_of (next state (push u)).detector.lock)
    ∷ more (next state (push u)) (tallied (cadence_in state u) t))
    (Fault (number_in state u) ∷ [])

-- Bytes after the end: 3.
abbrev pub ending : Tally → List ℕ → List Said
ending t bytes = cond (eqb (length bytes) 0) (Totals t ∷ []) (Fault 3 ∷ [])

unfoldable pub pictures : ℕ → Option Pictured → State → Tally → List ℕ → List Said
pictures zero p state t bytes = ending t bytes
pictures (suc n) p state t bytes =
    whole (picture_bytes p) (λ u rest. frame state t (picture u (grid_shape (shown p).shape) (shown p).first) (λ after v. pictures n p after v rest)) bytes

unfoldable pub picture_section : Option Pictured → State → Tally → List ℕ → List Said
picture_section p state t bytes = whole 2 (λ u rest. judged (picture_count_tests p (word_at u 0)) (pictures (word_at u 0) p state t rest)) bytes

unfoldable pub entries : ℕ → Option Pictured → State → Tally → List ℕ → List Said
entries zero p state t bytes = picture_section p state t bytes
entries (suc n) p state t bytes =
    whole 12 (λ u rest. judged (entry_tests u) (frame state t (push_in (entry_of u)) (λ after v. entries n p after v rest))) bytes

-- a fresh detector, and the store that the program lends it
abbrev pub fresh_state : State
fresh_state = record { detector = fresh_detector; store = replicate 16384 0 }

unfoldable pub entry_section : Option Pictured → List ℕ → List Said
entry_section p bytes = whole 2 (λ u rest. entries (word_at u 0) p fresh_state no_frames rest) bytes

unfoldable pub shape_section : ℕ → List ℕ → List Said
shape_section n bytes =
    cond (eqb n 0) (entry_section None bytes) (whole 10 (λ u rest. judged (shape_tests u) (entry_section (Some (pictured_in u)) rest)) bytes)

-- what the file says
unfoldable pub said_of : List ℕ → List Said
said_of bytes = whole 2 (λ u rest. judged (shape_count_tests (word_at u 0)) (shape_section (word_at u 0) rest)) bytes
