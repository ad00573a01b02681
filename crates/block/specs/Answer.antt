-- What `count` and `keep` give back (docs/RULES.md, "What the desk gets back").
use Rattle.std.specs.Prelude.{ℕ, ◌*◌, Bool, ◌&&◌, List, [], ◌∷◌, leb, length}
use Rattle.laws.specs.Refusal.{lowest, when_done}
use Rattle.plane.specs.declared.Shape.{Shape}
use Rattle.plane.specs.Plane.{good_shape, plane_bytes}
use Rattle.block.specs.declared.Counts.{Counts}
use Rattle.block.specs.Block.{busy_field, total_of, rows_of}

-- busy and all blocks of a field
abbrev pub counts_of : List ℕ → Shape → List ℕ → ℕ → Counts
counts_of bytes s store parity = record { busy = busy_field bytes s store parity; total = total_of s.width (rows_of s.height parity) }

-- 4: the shape is outside the bounds. 6: the plane is shorter than its shape needs, or the store than the frame it keeps.
abbrev pub count_tests : Shape → ℕ → ℕ → List (ℕ × Bool)
count_tests s bytes room = (4, good_shape s) ∷ (6, leb (plane_bytes s) bytes && leb (s.height * s.width) room) ∷ []

abbrev pub count_no : Shape → ℕ → ℕ → ℕ
count_no s bytes room = lowest (count_tests s bytes room)

abbrev pub count_values : List ℕ → Shape → List ℕ → ℕ → List Counts
count_values bytes s store parity = when_done (count_no s (length bytes) (length store)) (counts_of bytes s store parity)

-- 4 and 6 as for a read; 7: the store is too short for the frame that is kept in it.
abbrev pub keep_tests : Shape → ℕ → ℕ → List (ℕ × Bool)
keep_tests s bytes room = (4, good_shape s) ∷ (6, leb (plane_bytes s) bytes) ∷ (7, leb (s.height * s.width) room) ∷ []

abbrev pub keep_no : Shape → ℕ → ℕ → ℕ
keep_no s bytes room = lowest (keep_tests s bytes room)
