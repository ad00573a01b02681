-- Fields of a frame (docs/RULES.md, "Port order", 1: `Parity`, `first_field`; the source is field.rs), and the numbers that stand for fields and cadences.
use Rattle.std.specs.Prelude.{ℕ, Bool, true, false, cond, eqb}
use Rattle.field.specs.declared.Parity.{Parity}
use Rattle.field.specs.declared.Parity.TheVariants as parity
use Rattle.field.specs.declared.Cadence.{Cadence}
use Rattle.field.specs.declared.Cadence.TheVariants as cadence
use Rattle.field.specs.declared.Structure.{Structure}
use Rattle.field.specs.declared.Structure.TheVariants as structure

-- the rows of the top field are 0, 2, 4 and so on, those of the bottom field 1, 3, 5
abbrev pub first_row_of : Parity → ℕ
first_row_of parity.Top = 0
first_row_of parity.Bottom = 1

abbrev pub other_of : Parity → Parity
other_of parity.Top = parity.Bottom
other_of parity.Bottom = parity.Top

-- the field that a number names: 0 top, 1 bottom
abbrev pub parity_named : ℕ → Parity
parity_named number = cond (eqb number 0) parity.Top parity.Bottom

-- the byte that stands for a cadence (docs/RULES.md, "Fields and readback")
abbrev pub cadence_number : Cadence → ℕ
cadence_number cadence.None = 0
cadence_number cadence.Whole = 1
cadence_number cadence.Drop = 2
cadence_number cadence.Spanning = 3

-- the field that comes first in time: of a whole frame as its flag says, of a single field that field
abbrev pub first_field_of : Structure → Bool → Parity
first_field_of structure.Frame true = parity.Top
first_field_of structure.Frame false = parity.Bottom
first_field_of structure.Top top-field-first = parity.Top
first_field_of structure.Bottom top-field-first = parity.Bottom
