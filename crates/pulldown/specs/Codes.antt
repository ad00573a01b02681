-- Frames by what was seen of each, as a code: 0 to 3 for a symbol, any other for a frame that cannot be compared; and their cadences from a
-- fresh lock.
use Rattle.std.specs.Prelude.{ℕ, zero, suc, cond, List, [], ◌∷◌, leb, ltb, length, get_or, Option, Some, None}
use Rattle.laws.specs.Refusal.{lowest}
use Rattle.laws.specs.Rows.{listed}
use Rattle.field.specs.Field.{cadence_number}
use Rattle.pulldown.specs.declared.Symbol.{Symbol}
use Rattle.pulldown.specs.Symbols.{symbol_number}
use Rattle.pulldown.specs.Lock.{symbol_at, push_cadence, lock_of}

-- the code of what was seen of a frame: the symbol's number, and 4 for a frame that cannot be compared
abbrev pub seen_code : Option Symbol → ℕ
seen_code None = 4
seen_code (Some s) = symbol_number s

-- what a code stands for
abbrev pub seen_by : ℕ → Option Symbol
seen_by code = cond (ltb code 4) (Some (symbol_at code)) None

-- what was seen of the frames before frame k, newest first
unfoldable pub seen_before : List ℕ → ℕ → List (Option Symbol)
seen_before codes zero = []
seen_before codes (suc k) = seen_by (get_or codes k 0) ∷ seen_before codes k

-- the cadence of frame k, from a fresh lock
unfoldable pub cadence_of_code : List ℕ → ℕ → ℕ
cadence_of_code codes k = cadence_number (push_cadence (lock_of (seen_before codes k)) (seen_by (get_or codes k 0)))

-- one cadence byte for each code
abbrev pub cadences_of : List ℕ → List ℕ
cadences_of codes = listed (length codes) (cadence_of_code codes)

-- 9: there are more than 4,000,000,000 frames
abbrev pub codes_no : ℕ → ℕ
codes_no frames = lowest ((9, leb frames 4000000000) ∷ [])
