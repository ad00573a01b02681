-- What `code` and `at` give back (docs/RULES.md, "What the desk gets back"): the number, and the value of a call that gets 0.
use Rattle.std.specs.Prelude.{ℕ, ◌≡◌, Bool, ◌&&◌, List, [], ◌∷◌, leb, ℤ, nat_abs, length, Float, Result}
use Rattle.laws.specs.Refusal.{lowest, when_done}
use Rattle.refusal.specs.declared.Refusal.{Refusal}
use Rattle.refusal.specs.Refusal.{no_of, values_of}
use Rattle.plane.specs.declared.Shape.{Shape}
use Rattle.plane.specs.Plane.{good_shape, plane_bytes, code_of, value_of}
use Rattle.plane.specs.Coordinates.{in_reach, inside}

-- 3: a coordinate is outside. 4: a shape is outside the bounds. 6: the lent plane, of so many bytes, is shorter than its shape needs.
abbrev pub read_tests : Bool → Shape → ℕ → List (ℕ × Bool)
read_tests coordinates s bytes = (3, coordinates) ∷ (4, good_shape s) ∷ (6, leb (plane_bytes s) bytes) ∷ []

abbrev pub code_tests : Shape → ℕ → ℤ → ℤ → List (ℕ × Bool)
code_tests s bytes x y = read_tests (inside s.width x && inside s.height y) s bytes

abbrev pub at_tests : Shape → ℕ → ℤ → ℤ → List (ℕ × Bool)
at_tests s bytes x y = read_tests (in_reach x && in_reach y) s bytes

abbrev pub code_no : Shape → ℕ → ℤ → ℤ → ℕ
code_no s bytes x y = lowest (code_tests s bytes x y)

abbrev pub at_no : Shape → ℕ → ℤ → ℤ → ℕ
at_no s bytes x y = lowest (at_tests s bytes x y)

-- What each gives back, of a plane of these bytes: its number, and at 0 the code, or the value.
abbrev pub GivesCode : Result ℕ Refusal → List ℕ → Shape → ℤ → ℤ → Type 0
GivesCode r bytes s x y =
    (no_of r ≡ code_no s (length bytes) x y) × (values_of r ≡ when_done (code_no s (length bytes) x y) (code_of bytes s (nat_abs x) (nat_abs y)))

abbrev pub GivesValue : Result Float Refusal → List ℕ → Shape → ℤ → ℤ → Type 0
GivesValue r bytes s x y = (no_of r ≡ at_no s (length bytes) x y) × (values_of r ≡ when_done (at_no s (length bytes) x y) (value_of bytes s x y))
