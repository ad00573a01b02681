-- The refusal with which a text of the listing ends, which the program tells in words.
use Rattle.std.specs.Prelude.{ℕ, ◌-◌, cond, ◌&&◌, List, ltb, eqb, length, get_or}

-- the byte that stands k places before a text's end
abbrev pub from_end : ℕ → List ℕ → ℕ
from_end k text = get_or text (length text - k) 0

-- The line is `refused N`, with N of one digit: a space is the third byte from the text's end, a `d` the fourth, and the digit the second. 0 where the
-- text ends otherwise.
unfoldable pub refusal_in : List ℕ → ℕ
refusal_in text = cond (ltb (length text) 4) 0 (cond (eqb (from_end 3 text) 32 && eqb (from_end 4 text) 100) (from_end 2 text - 48) 0)
