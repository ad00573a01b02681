-- Whole numbers in lent bytes, eight bytes each, low byte first: how the desk keeps a state between calls.
use Rattle.std.specs.Prelude.{ℕ, ◌+◌, ◌*◌, ◌/◌, ◌%◌, ◌^◌, Bool, List, [], ◌∷◌, leb, length, get_or}
use Rattle.laws.specs.Refusal.{lowest}
use Rattle.laws.specs.Sums.{sum_over}
use Rattle.laws.specs.Rows.{listed, laid}

-- the eight bytes of a number, and the numbers laid end to end
unfoldable pub eight_bytes : ℕ → List ℕ
eight_bytes n = listed 8 (λ i. n / 256 ^ i % 256)

unfoldable pub packed_of : List ℕ → List ℕ
packed_of numbers = laid (length numbers) (λ k. eight_bytes (get_or numbers k 0))

-- the number k of such bytes; bytes past the end count as 0
unfoldable pub number_at : List ℕ → ℕ → ℕ
number_at bytes k = sum_over 8 (λ i. get_or bytes (8 * k + i) 0 * 256 ^ i)

-- 7: the lent bytes are too few for the numbers
abbrev pub pack_tests : ℕ → ℕ → List (ℕ × Bool)
pack_tests numbers room = (7, leb (8 * numbers) room) ∷ []

abbrev pub pack_no : ℕ → ℕ → ℕ
pack_no numbers room = lowest (pack_tests numbers room)
