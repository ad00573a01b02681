-- What holds of the definitions here. proofs/Claims.antt proves each claim under its name in small letters.
use Rattle.std.specs.Prelude.{ℕ, ◌<◌, ◌*◌, ◌^◌, ◌≡◌, List, length, get_or}
use Rattle.laws.specs.Refusal.{Says}
use Rattle.laws.specs.Rows.{over}
use Rattle.packed.specs.Packed.{packed_of, number_at, pack_tests}

-- A number of 64 bits that was packed is read back, whatever lies behind.
abbrev pub ReadsBack : Type 0
ReadsBack =
    (numbers old : List ℕ) (k : ℕ) → k < length numbers → get_or numbers k 0 < 2 ^ 64 → number_at (over (packed_of numbers) old) k ≡ get_or numbers k 0

abbrev pub PackedSize : Type 0
PackedSize = (numbers : List ℕ) → length (packed_of numbers) ≡ length numbers * 8

abbrev pub PackSays : Type 0
PackSays = (numbers room : ℕ) → Says (pack_tests numbers room)
