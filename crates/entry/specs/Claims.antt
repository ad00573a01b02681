-- What the contracts of `entry` come to. proofs/Claims.antt proves each claim under its name in small letters.
use Rattle.std.specs.Prelude.{ℕ, ◌/◌, ◌<◌, ◌≡◌, List, [], ◌∷◌, length, get_or}
use Rattle.laws.specs.Refusal.{Says}
use Rattle.field.specs.Field.{cadence_number}
use Rattle.pulldown.specs.Claims.{Third}
use Rattle.telecine.specs.History.{push, frames_of, run_of, cadence_of}
use Rattle.entry.specs.Entry.{push_in, entry_at, earlier_than, cadences_of, cadences_tests, cadences_no}

-- 0 exactly when no number applies, and otherwise the lowest that does
abbrev pub CadencesSays : Type 0
CadencesSays = (bytes : List ℕ) (room : ℕ) → Says (cadences_tests bytes room)

-- Where the entries are not refused, byte k of the output stands for the cadence that demand 3 says of frame k and its run.
pub record Demanded (bytes : List ℕ) (k : ℕ) : Type 0 where
  pub number : frames_of (earlier_than bytes k) ≡ k
  pub byte : get_or (cadences_of bytes) k 0 ≡ cadence_number (cadence_of [] (push_in (entry_at bytes k)) (earlier_than bytes k))
  pub third :
      Third (frames_of (earlier_than bytes k)) (run_of (push (push_in (entry_at bytes k)) ∷ earlier_than bytes k))
      (cadence_of [] (push_in (entry_at bytes k)) (earlier_than bytes k))

abbrev pub EntriesDemanded : Type 0
EntriesDemanded = (bytes : List ℕ) (room k : ℕ) → cadences_no bytes room ≡ 0 → k < length bytes / 12 → Demanded bytes k
