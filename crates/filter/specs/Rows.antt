-- Which rows are shown (docs/RULES.md, "Rows a field lacks" and "Colour and comb": no field means first 0, no mate means 2).
use Rattle.std.specs.Prelude.{ℕ, Bool, true, false, cond, ◌&&◌, leb, eqb, Option, Some, None}
use Rattle.field.specs.declared.Output.{Output}
use Rattle.field.specs.declared.Parity.{Parity}
use Rattle.field.specs.Field.{first_row_of}
use Rattle.filter.specs.declared.Quality.{Quality}
use Rattle.filter.specs.declared.Quality.TheVariants.{Weave, Bob, Yadif, Bwdif}
use Rattle.filter.specs.declared.Rows.{Rows}

-- 0 Weave, 1 Bob, 2 Yadif, 3 Bwdif; another code names nothing
abbrev pub quality_named : ℕ → Quality
quality_named code = cond (eqb code 0) Weave (cond (eqb code 1) Bob (cond (eqb code 2) Yadif Bwdif))

-- Weave takes both fields as they stand, and the others make the rows that one lacks.
abbrev pub weaves : Quality → Bool
weaves Weave = true
weaves Bob = false
weaves Yadif = false
weaves Bwdif = false

-- the first row of the field that was chosen, and another number where neither was
abbrev pub first_row_or : Option Parity → ℕ → ℕ
first_row_or (Some parity) none = first_row_of parity
first_row_or None none = none

abbrev pub rows_of : Output → Rows
rows_of output = record { first = first_row_or output.field 0; mate = first_row_or output.weave 2 }

-- `first` is 0 or 1, and `mate` 0, 1 or 2.
abbrev pub good_rows : Rows → Bool
good_rows rows = leb rows.first 1 && leb rows.mate 2

-- one field alone
abbrev pub field_rows_of : ℕ → Rows
field_rows_of first = record { first = first; mate = 2 }
