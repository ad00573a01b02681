-- What `comb` and `comb_rgba` give back (docs/RULES.md, "What the desk gets back").
use Rattle.std.specs.Prelude.{ℕ, ◌*◌, Bool, ◌&&◌, List, [], ◌∷◌, leb}
use Rattle.laws.specs.Refusal.{lowest}
use Rattle.plane.specs.Plane.{good_shape, plane_bytes, unshifted}

-- 4: the shape is outside the bounds. 6: the lent plane, of so many bytes, is shorter than its shape needs.
abbrev pub comb_tests : ℕ → ℕ → ℕ → ℕ → ℕ → List (ℕ × Bool)
comb_tests width height depth stride bytes =
    (4, good_shape (unshifted width height depth stride)) ∷ (6, leb (plane_bytes (unshifted width height depth stride)) bytes) ∷ []

abbrev pub comb_no : ℕ → ℕ → ℕ → ℕ → ℕ → ℕ
comb_no width height depth stride bytes = lowest (comb_tests width height depth stride bytes)

-- 4: an RGBA width or height is outside the bounds. 6: the picture is shorter than its pixels.
abbrev pub rgba_tests : ℕ → ℕ → ℕ → List (ℕ × Bool)
rgba_tests width height bytes = (4, leb 1 width && leb width 8192 && leb 1 height && leb height 4352) ∷ (6, leb (height * width * 4) bytes) ∷ []

abbrev pub rgba_no : ℕ → ℕ → ℕ → ℕ
rgba_no width height bytes = lowest (rgba_tests width height bytes)
