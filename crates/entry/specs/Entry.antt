-- Measured entries as a reel file lays them out, and their cadences from a fresh detector (docs/RULES.md, "Reel file and listing", "Fields and
-- readback").
use Rattle.std.specs.Prelude.{ℕ, zero, suc, ◌+◌, ◌*◌, ◌/◌, ◌%◌, Bool, true, cond, ◌&&◌, List, [], ◌∷◌, Option, Some, None, leb, eqb, length, get_or, drop}
use Rattle.laws.specs.Refusal.{lowest}
use Rattle.laws.specs.Rows.{listed}
use Rattle.field.specs.Field.{parity_named, cadence_number}
use Rattle.telecine.specs.declared.Measured.{Measured}
use Rattle.telecine.specs.History.{Push, Call, push, measured, cadence_of}
use Rattle.entry.specs.declared.Entry.{Entry}

-- ---- one entry

-- Numbers are 16 bits, low byte first. A byte past the end counts as 0.
abbrev pub word_at : List ℕ → ℕ → ℕ
word_at bytes i = get_or bytes i 0 + 256 * get_or bytes (i + 1) 0

-- An entry is parity (0 top), present (0 or 1), then busy and total of the leading field, then of the trailing: twelve bytes.
unfoldable pub entry_of : List ℕ → Entry
entry_of bytes = record {
  parity = word_at bytes 0;
  present = word_at bytes 2;
  leading = record { busy = word_at bytes 4; total = word_at bytes 6 };
  trailing = record { busy = word_at bytes 8; total = word_at bytes 10 };
}

-- parity and present are each 0 or 1
abbrev pub good_entry : Entry → Bool
good_entry e = leb e.parity 1 && leb e.present 1

-- Absent entries' numbers are ignored.
abbrev pub measured_in : Entry → Option Measured
measured_in e = cond (eqb e.present 0) None (Some (record { leading = e.leading; trailing = e.trailing }))

-- the push that an entry stands for
abbrev pub push_in : Entry → Push
push_in e = measured (parity_named e.parity) (measured_in e)

-- ---- entries one after another

abbrev pub entry_at : List ℕ → ℕ → Entry
entry_at bytes k = entry_of (drop (12 * k) bytes)

-- the frames before entry k, newest first
unfoldable pub earlier_than : List ℕ → ℕ → List Call
earlier_than bytes zero = []
earlier_than bytes (suc k) = push (push_in (entry_at bytes k)) ∷ earlier_than bytes k

-- the cadence of the frame of entry k, from a fresh detector
unfoldable pub cadence_at : List ℕ → ℕ → ℕ
cadence_at bytes k = cadence_number (cadence_of [] (push_in (entry_at bytes k)) (earlier_than bytes k))

-- one cadence byte for each entry
abbrev pub cadences_of : List ℕ → List ℕ
cadences_of bytes = listed (length bytes / 12) (cadence_at bytes)

-- whether a test holds of 0, 1, .. , n - 1
unfoldable pub every_below : ℕ → (ℕ → Bool) → Bool
every_below zero test = true
every_below (suc n) test = every_below n test && test n

-- 3: a whole entry's parity or present number names nothing. 6: the bytes end inside an entry. 7: the output has fewer bytes than there are
-- entries. 9: there are more than 4,000,000,000 of them.
abbrev pub cadences_tests : List ℕ → ℕ → List (ℕ × Bool)
cadences_tests bytes room =
    (3, every_below (length bytes / 12) (λ k. good_entry (entry_at bytes k)))
    ∷ (6, eqb (length bytes % 12) 0)
    ∷ (7, leb (length bytes / 12) room)
    ∷ (9, leb (length bytes / 12) 4000000000)
    ∷ []

abbrev pub cadences_no : List ℕ → ℕ → ℕ
cadences_no bytes room = lowest (cadences_tests bytes room)
