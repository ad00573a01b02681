-- What `edge` and `sample` give back (docs/RULES.md, "What the desk gets back"): the number, and the value of a call that gets 0.
use Rattle.std.specs.Prelude.{ℕ, Bool, ◌&&◌, List, [], ◌∷◌, ℤ}
use Rattle.laws.specs.Refusal.{lowest}
use Rattle.plane.specs.declared.Shape.{Shape}
use Rattle.plane.specs.Coordinates.{in_reach}
use Rattle.plane.specs.Answer.{at_tests}
use Rattle.filter.specs.declared.Making.{Making}
use Rattle.filter.specs.Rows.{good_rows}
use Rattle.filter.specs.Making.{planes_good, planes_alike, planes_whole}

-- 3, 4 and 6 as of `at`.
abbrev pub edge_tests : Shape → ℕ → ℤ → ℤ → List (ℕ × Bool)
edge_tests s bytes x y = at_tests s bytes x y

abbrev pub edge_no : Shape → ℕ → ℤ → ℤ → ℕ
edge_no s bytes x y = lowest (edge_tests s bytes x y)

-- Three planes. 4: a shape is outside the bounds. 5: the planes differ. 6: a lent plane, of so many bytes, is shorter than its shape needs.
abbrev pub planes_tests : Making → ℕ → ℕ → ℕ → List (ℕ × Bool)
planes_tests making before cur after = (4, planes_good making) ∷ (5, planes_alike making) ∷ (6, planes_whole making before cur after) ∷ []

-- 3: `first` is not 0 or 1, `mate` not 0, 1 or 2, or a coordinate is outside.
abbrev pub sample_tests : Making → ℕ → ℕ → ℕ → ℤ → ℤ → List (ℕ × Bool)
sample_tests making before cur after x y = (3, good_rows making.rows && in_reach x && in_reach y) ∷ planes_tests making before cur after

abbrev pub sample_no : Making → ℕ → ℕ → ℕ → ℤ → ℤ → ℕ
sample_no making before cur after x y = lowest (sample_tests making before cur after x y)
