-- A record of a list that `replay_..` reads: four numbers at its head, its numbers, where each slice starts and how many bytes it has, then the
-- bytes of the slices. Numbers have eight bytes, low byte first; what is past the record's end counts as 0.
use Rattle.std.specs.Prelude.{ℕ, zero, suc, ◌+◌, ◌-◌, ◌*◌, ◌/◌, ◌%◌, ◌^◌, Bool, true, cond, ◌&&◌, List, [], leb, eqb, ℤ, pos, negsuc, length, take, drop}
use Rattle.packed.specs.Packed.{number_at}

-- number k of a record
abbrev pub number_of : List ℕ → ℕ → ℕ
number_of answer k = number_at answer (4 + k)

-- a signed number as the list has it: 2 n stands for n, and 2 n + 1 for -(n + 1); n has so many bits
unfoldable pub signed_of : ℕ → ℕ → ℤ
signed_of bits n = cond (eqb (n % 2) 0) (pos (n / 2 % 2 ^ bits)) (negsuc (n / 2 % 2 ^ bits))

-- where slice j of a record of so many numbers starts, and how many bytes it has
abbrev pub start_of : List ℕ → ℕ → ℕ → ℕ
start_of answer numbers j = number_at answer (4 + numbers + 2 * j)

abbrev pub size_of : List ℕ → ℕ → ℕ → ℕ
size_of answer numbers j = number_at answer (4 + numbers + 2 * j + 1)

unfoldable pub inside_of : List ℕ → ℕ → ℕ → Bool
inside_of answer numbers j = leb (start_of answer numbers j) (length answer) && leb (size_of answer numbers j) (length answer - start_of answer numbers j)

unfoldable pub bytes_of : List ℕ → ℕ → ℕ → List ℕ
bytes_of answer numbers j = cond (inside_of answer numbers j) (take (size_of answer numbers j) (drop (start_of answer numbers j) answer)) []

-- where it stands, a block and an offset: so far into the record, or, where it is none, at the record's front
unfoldable pub place_of : ℕ × ℕ → List ℕ → ℕ → ℕ → ℕ × ℕ
place_of record-place answer numbers j = cond (inside_of answer numbers j) (record-place.0, start_of answer numbers j + record-place.1) record-place

-- whether a test passes for every number below n
unfoldable pub every : ℕ → (ℕ → Bool) → Bool
every zero passes = true
every (suc n) passes = every n passes && passes n

-- the record has so many numbers and so many slices, all within it
unfoldable pub whole_of : List ℕ → ℕ → ℕ → Bool
whole_of answer numbers slices =
    (eqb (number_at answer 2) numbers && eqb (number_at answer 3) slices) && every slices (λ j. inside_of answer numbers j)
