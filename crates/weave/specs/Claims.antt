-- What the contracts of `weave` come to. proofs/Claims.antt proves each claim under its name in small letters.
use Rattle.std.specs.Prelude.{ℕ, ◌+◌, ◌*◌, ◌<◌, ◌≤◌, ◌≡◌, true, List, length, get_or, take, drop}
use Rattle.laws.specs.Refusal.{Says}
use Rattle.plane.specs.declared.Grid.{Grid}
use Rattle.plane.specs.Plane.{grid_shape, plane_bytes, agree}
use Rattle.weave.specs.Weave.{Given, line_bytes, good_lines, woven_line, woven_plane, woven_bytes, weave_tests, line_tests}

-- 0 exactly when no number applies, and otherwise the lowest that does
abbrev pub WeaveSays : Type 0
WeaveSays = (top bottom : Given) (luma_room cb_room cr_room : ℕ) → Says (weave_tests top bottom luma_room cb_room cr_room)

abbrev pub LineSays : Type 0
LineSays = (t : Grid) (top-bytes : ℕ) (b : Grid) (bottom-bytes y : ℕ) → Says (line_tests t top-bytes b bottom-bytes y)

-- two planes that can be woven
pub record Matched (top : List ℕ) (t : Grid) (bottom : List ℕ) (b : Grid) : Type 0 where
  pub top_good : good_lines t ≡ true
  pub bottom_good : good_lines b ≡ true
  pub alike : agree (grid_shape t) (grid_shape b) ≡ true
  pub top_whole : plane_bytes (grid_shape t) ≤ length top
  pub bottom_whole : plane_bytes (grid_shape b) ≤ length bottom

-- Every byte of both fields stands in the woven plane, at its own line, and nothing else does: the places named here are all that it has.
pub record Alternates (top : List ℕ) (t : Grid) (bottom : List ℕ) (b : Grid) : Type 0 where
  pub size : length (woven_plane top t bottom b) ≡ woven_bytes t
  pub even :
      (r i : ℕ) → r < t.height → i < line_bytes t
      → get_or (woven_plane top t bottom b) (r * 2 * line_bytes t + i) 0 ≡ get_or top (r * t.stride + i) 0
  pub odd :
      (r i : ℕ) → r < t.height → i < line_bytes t
      → get_or (woven_plane top t bottom b) ((r * 2 + 1) * line_bytes t + i) 0 ≡ get_or bottom (r * b.stride + i) 0

abbrev pub WovenAlternates : Type 0
WovenAlternates = (top : List ℕ) (t : Grid) (bottom : List ℕ) (b : Grid) → Matched top t bottom b → Alternates top t bottom b

-- The single line y is line y of the woven plane.
abbrev pub LineOfWoven : Type 0
LineOfWoven =
    (top : List ℕ) (t : Grid) (bottom : List ℕ) (b : Grid) (y : ℕ) → Matched top t bottom b → y < t.height * 2
    → take (line_bytes t) (drop (y * line_bytes t) (woven_plane top t bottom b)) ≡ woven_line top t bottom b y
