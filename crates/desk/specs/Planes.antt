-- The reads of one sample, by number (docs/RULES.md, "Planes", "What the desk gets back").
use Rattle.std.specs.Prelude.{ℕ, Bool, List, ◌∷◌, leb, ℤ}
use Rattle.laws.specs.Refusal.{lowest}
use Rattle.plane.specs.Answer.{code_tests as planeCodeTests, at_tests as planeAtTests}
use Rattle.numbers.specs.declared.PlaneNumbers.{PlaneNumbers}
use Rattle.numbers.specs.Numbers.{shape_named}

-- 3 also where the layout's code names nothing
abbrev pub named : ℕ → List (ℕ × Bool) → List (ℕ × Bool)
named layout tests = (3, leb layout 3) ∷ tests

abbrev pub code_tests : PlaneNumbers → ℕ → ℤ → ℤ → List (ℕ × Bool)
code_tests n bytes x y = named n.layout (planeCodeTests (shape_named n) bytes x y)

abbrev pub code_no : PlaneNumbers → ℕ → ℤ → ℤ → ℕ
code_no n bytes x y = lowest (code_tests n bytes x y)

abbrev pub at_tests : PlaneNumbers → ℕ → ℤ → ℤ → List (ℕ × Bool)
at_tests n bytes x y = named n.layout (planeAtTests (shape_named n) bytes x y)

abbrev pub at_no : PlaneNumbers → ℕ → ℤ → ℤ → ℕ
at_no n bytes x y = lowest (at_tests n bytes x y)
