-- What holds of the definitions here. proofs/Claims.antt proves each under its name in small letters.
use Rattle.std.specs.Prelude.{ℕ, ◌-◌, ◌*◌, ◌≤◌, ◌<◌, ◌≡◌, List}
use Rattle.laws.specs.Refusal.{Says}
use Rattle.plane.specs.Plane.{unshifted, full_code, code_of}
use Rattle.comb.specs.Comb.{comb_of, plane_comb}
use Rattle.comb.specs.Answer.{comb_tests, rgba_tests}

-- `comb` gives 4 exactly when the shape is outside the bounds, 6 exactly when only the plane is too short, and 0 exactly when neither
abbrev pub CombSays : Type 0
CombSays = (width height depth stride bytes : ℕ) → Says (comb_tests width height depth stride bytes)

-- `comb_rgba` likewise, of a picture's width and height and of its bytes
abbrev pub RgbaSays : Type 0
RgbaSays = (width height bytes : ℕ) → Says (rgba_tests width height bytes)

-- comb is at most twice the largest code for each column and inner row, whatever the bytes
abbrev pub CombWithin : Type 0
CombWithin = (bytes : List ℕ) (width height depth stride : ℕ) → plane_comb bytes width height depth stride ≤ (height - 2) * (width * (2 * full_code depth))

-- two planes of the same codes have the same comb, whatever their stray bits
abbrev pub CodesSettle : Type 0
CodesSettle =
    (bytes bytes' : List ℕ) (width height depth stride : ℕ) →
    let shape = unshifted width height depth stride in
    ((x y : ℕ) → x < width → y < height → code_of bytes shape x y ≡ code_of bytes' shape x y) →
    plane_comb bytes width height depth stride ≡ plane_comb bytes' width height depth stride

-- a picture of two rows or fewer has no inner row, and comb 0
abbrev pub NoInnerRow : Type 0
NoInnerRow = (code : ℕ → ℕ → ℕ) (width height : ℕ) → height ≤ 2 → comb_of code width height ≡ 0
