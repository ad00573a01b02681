-- The text of what a reel file says, as bytes (docs/RULES.md, "Reel file and listing").
use Rattle.std.specs.Prelude.{ℕ, zero, suc, ◌+◌, ◌/◌, ◌%◌, Bool, true, false, cond, List, [], ◌∷◌, ◌++◌, leb, ltb, length}
use Rattle.field.specs.declared.Cadence.{Cadence}
use Rattle.field.specs.declared.Cadence.TheVariants.{None, Whole, Drop, Spanning}
use Rattle.reel.specs.declared.Said.{Said}
use Rattle.reel.specs.declared.Said.TheVariants.{Quiet, Frame, Totals, Fault}
use Rattle.pages.specs.Pages.{put}
use Rattle.reel.specs.Reel.{said_of}

-- ---- numbers and words

-- the decimal digits of n with no 0 in front; `most` is at least their number
unfoldable pub decimal_in : ℕ → ℕ → List ℕ
decimal_in zero n = (48 + n) ∷ []
decimal_in (suc most) n = cond (ltb n 10) ((48 + n) ∷ []) (decimal_in most (n / 10) ++ ((48 + n % 10) ∷ []))

unfoldable pub decimal_of : ℕ → List ℕ
decimal_of n = decimal_in n n

-- " none ", " whole ", " drop ", " spanning "
abbrev pub none_word : List ℕ
none_word = 32 ∷ 110 ∷ 111 ∷ 110 ∷ 101 ∷ 32 ∷ []

abbrev pub whole_word : List ℕ
whole_word = 32 ∷ 119 ∷ 104 ∷ 111 ∷ 108 ∷ 101 ∷ 32 ∷ []

abbrev pub drop_word : List ℕ
drop_word = 32 ∷ 100 ∷ 114 ∷ 111 ∷ 112 ∷ 32 ∷ []

abbrev pub spanning_word : List ℕ
spanning_word = 32 ∷ 115 ∷ 112 ∷ 97 ∷ 110 ∷ 110 ∷ 105 ∷ 110 ∷ 103 ∷ 32 ∷ []

-- "whole " and "refused " at the front of a line
abbrev pub whole_first : List ℕ
whole_first = 119 ∷ 104 ∷ 111 ∷ 108 ∷ 101 ∷ 32 ∷ []

abbrev pub refused_first : List ℕ
refused_first = 114 ∷ 101 ∷ 102 ∷ 117 ∷ 115 ∷ 101 ∷ 100 ∷ 32 ∷ []

abbrev pub line_end : List ℕ
line_end = 10 ∷ []

abbrev pub cadence_word : Cadence → List ℕ
cadence_word None = none_word
cadence_word Whole = whole_word
cadence_word Drop = drop_word
cadence_word Spanning = spanning_word

-- 1 with a lock, else 0; and the line's end
abbrev pub lock_end : Bool → List ℕ
lock_end true = 49 ∷ 10 ∷ []
lock_end false = 48 ∷ 10 ∷ []

-- ---- lines

-- a line per frame: number, cadence, lock; then totals, or `refused N` in their place
abbrev pub text_of : Said → List ℕ
text_of Quiet = []
text_of (Frame n c locked) = decimal_of n ++ (cadence_word c ++ lock_end locked)
text_of (Totals t) =
    whole_first ++ (decimal_of t.whole ++ (drop_word ++ (decimal_of t.drop ++ (spanning_word ++ (decimal_of t.spanning
    ++ (none_word ++ (decimal_of t.none ++ line_end)))))))
text_of (Fault n) = refused_first ++ (decimal_of n ++ line_end)

abbrev pub text_of_all : List Said → List ℕ
text_of_all [] = []
text_of_all (said ∷ more) = text_of said ++ text_of_all more

-- the whole answer for any list of bytes
unfoldable pub listing_of : List ℕ → List ℕ
listing_of bytes = text_of_all (said_of bytes)

-- ---- a line in a lent buffer

-- No line is longer than 128 bytes. Where fewer are left, nothing is written.
abbrev pub line_fits : List ℕ → ℕ → Bool
line_fits list at = leb (at + 128) (length list)

abbrev pub put_line : List ℕ → ℕ → Said → List ℕ
put_line list at said = cond (line_fits list at) (put list at (text_of said)) list

abbrev pub line_ends : List ℕ → ℕ → Said → ℕ
line_ends list at said = cond (line_fits list at) (at + length (text_of said)) at
