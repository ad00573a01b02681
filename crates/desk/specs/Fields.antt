-- Fields by number (docs/RULES.md, "What the desk gets back": 3 for a code that names nothing).
use Rattle.std.specs.Prelude.{ℕ, Bool, cond, ◌&&◌, List, [], ◌∷◌, leb, eqb}
use Rattle.laws.specs.Refusal.{lowest}
use Rattle.field.specs.Field.{first_row_of, first_field_of}
use Rattle.field.specs.declared.Structure.{Structure}
use Rattle.field.specs.declared.Structure.TheVariants.{Frame, Top, Bottom}

-- 0 frame, 1 top, 2 bottom; another code names nothing and is refused
abbrev pub structure_named_of : ℕ → Structure
structure_named_of code = cond (eqb code 0) Frame (cond (eqb code 1) Top Bottom)

abbrev pub first_field_tests : ℕ → ℕ → List (ℕ × Bool)
first_field_tests structure top-field-first = (3, leb structure 2 && leb top-field-first 1) ∷ []

abbrev pub first_field_no : ℕ → ℕ → ℕ
first_field_no structure top-field-first = lowest (first_field_tests structure top-field-first)

-- the first field by its number, 0 top and 1 bottom
abbrev pub first_field_number : ℕ → ℕ → ℕ
first_field_number structure top-field-first = first_row_of (first_field_of (structure_named_of structure) (eqb top-field-first 1))
