-- Symbols (docs/RULES.md, "Blocks and symbols"): what the busy blocks of a frame's two fields say of it. `first` and `second` are the busy
-- blocks of the leading and the trailing field, `blocks` is the leading field's total.
use Rattle.std.specs.Prelude.{ℕ, ◌/◌, max, Bool, cond, ◌&&◌, leb, ltb, eqb}
use Rattle.pulldown.specs.declared.Symbol.{Symbol}
use Rattle.pulldown.specs.declared.Symbol.TheVariants.{Still, Moved, RepeatFirst, RepeatSecond}

abbrev pub moving_of : ℕ → ℕ
moving_of blocks = max (blocks / 128) 4

abbrev pub quiet_of : ℕ → ℕ
quiet_of blocks = max (blocks / 1024) 1

-- First <= quiet and second >= moving: first repeats. Mirror: second repeats. Both < moving: still. Otherwise moved.
unfoldable pub symbol_of : ℕ → ℕ → ℕ → Symbol
symbol_of first blocks second =
    cond (leb first (quiet_of blocks) && leb (moving_of blocks) second) RepeatFirst
    (cond (leb second (quiet_of blocks) && leb (moving_of blocks) first) RepeatSecond
    (cond (ltb first (moving_of blocks) && ltb second (moving_of blocks)) Still Moved))

-- the number that tells a symbol from the others
abbrev pub symbol_number : Symbol → ℕ
symbol_number Still = 0
symbol_number Moved = 1
symbol_number RepeatFirst = 2
symbol_number RepeatSecond = 3

abbrev pub same_symbol : Symbol → Symbol → Bool
same_symbol a b = eqb (symbol_number a) (symbol_number b)

-- what a symbol adds to the count of another
abbrev pub one_if : Symbol → Symbol → ℕ
one_if a b = cond (same_symbol a b) 1 0
