-- A detector kept in lent bytes between calls: ten numbers of eight bytes, the ring's fifteen bytes, and the phase. Every list of bytes is some
-- detector, so that no call has to trust what it is lent.
use Rattle.std.specs.Prelude.{ℕ, ◌+◌, ◌%◌, Bool, true, false, cond, not, List, [], ◌∷◌, ◌++◌, Option, Some, None, eqb, get_or}
use Rattle.laws.specs.Rows.{listed, over}
use Rattle.field.specs.declared.Parity.{Parity}
use Rattle.field.specs.Field.{first_row_of, parity_named}
use Rattle.packed.specs.Packed.{packed_of, number_at}
use Rattle.telecine.specs.declared.Detector.{Detector}

-- the bytes that a state needs
abbrev pub state_bytes : ℕ
state_bytes = 96

abbrev pub number_if : Bool → ℕ
number_if true = 1
number_if false = 0

-- the remembered parity: 0 none, 1 top, 2 bottom
abbrev pub chosen_number : Option Parity → ℕ
chosen_number None = 0
chosen_number (Some parity) = first_row_of parity + 1

abbrev pub chosen_named : ℕ → Option Parity
chosen_named n = cond (eqb n 0) None (Some (cond (eqb n 1) (parity_named 0) (parity_named 1)))

-- the numbers of a detector: of the lock, of the kept frame's shape, of the last parity
abbrev pub detector_numbers : Detector → List ℕ
detector_numbers d =
    d.lock.course.next ∷ d.lock.course.held ∷ d.lock.course.taken ∷ d.lock.course.since ∷ d.lock.course.stills
    ∷ number_if d.kept.held ∷ d.kept.width ∷ d.kept.height ∷ first_row_of d.kept.first ∷ chosen_number d.last ∷ []

abbrev pub detector_bytes : Detector → List ℕ
detector_bytes d = packed_of (detector_numbers d) ++ (d.lock.ring ++ (d.lock.course.phase ∷ []))

-- The detector that bytes hold. A number too large for its place is cut to the place's size.
unfoldable pub detector_in : List ℕ → Detector
detector_in bytes = record {
  lock = record {
    ring = listed 15 (λ i. get_or bytes (80 + i) 0);
    course = record {
      next = number_at bytes 0;
      held = number_at bytes 1;
      taken = number_at bytes 2;
      phase = get_or bytes 95 0;
      since = number_at bytes 3;
      stills = number_at bytes 4;
    };
  };
  kept = record {
    held = not (eqb (number_at bytes 5) 0);
    width = number_at bytes 6 % 65536;
    height = number_at bytes 7 % 65536;
    first = parity_named (number_at bytes 8);
  };
  last = chosen_named (number_at bytes 9);
}

-- bytes with a detector written at their front
abbrev pub keeping : Detector → List ℕ → List ℕ
keeping d bytes = over (detector_bytes d) bytes
