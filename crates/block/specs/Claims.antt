-- What holds of the definitions here. proofs/Claims.antt proves each under its name in small letters.
use Rattle.std.specs.Prelude.{ℕ, ◌-◌, ◌/◌, ◌^◌, ◌≤◌, ◌<◌, ◌≡◌, List}
use Rattle.laws.specs.Refusal.{Says}
use Rattle.laws.specs.Rows.{over}
use Rattle.laws.specs.Sums.{apart}
use Rattle.plane.specs.declared.Shape.{Shape}
use Rattle.plane.specs.Plane.{word_of, full_code, code_of}
use Rattle.block.specs.Block.{kept_of, kept_frame, stored_of, busy_of, busy_field}
use Rattle.block.specs.Answer.{count_tests, keep_tests}

-- `count` gives 4 exactly when the shape is outside the bounds, 6 exactly when only the plane or the store is too short, 0 exactly when neither
abbrev pub CountSays : Type 0
CountSays = (s : Shape) (bytes room : ℕ) → Says (count_tests s bytes room)

-- `keep` likewise, with 7 exactly when only the store is too short
abbrev pub KeepSays : Type 0
KeepSays = (s : Shape) (bytes room : ℕ) → Says (keep_tests s bytes room)

-- a code has no bit above its depth, so that the remainder drops nothing: its upper 8 bits are kept
abbrev pub KeptIsUpper : Type 0
KeptIsUpper = (bytes : List ℕ) (s : Shape) (x y : ℕ) → kept_of bytes s x y ≡ code_of bytes s x y / 2 ^ (s.depth - 8)

-- and of a word that is not below the largest code, whatever its bits, 255 is kept
abbrev pub AboveIsKeptFull : Type 0
AboveIsKeptFull =
    (bytes : List ℕ) (s : Shape) (x y : ℕ) → s.depth ≤ 16 → full_code s.depth ≤ word_of bytes s x y → kept_of bytes s x y ≡ 255

-- two pictures of the same codes, whatever their stray bits, are kept alike and counted alike
abbrev pub CodesSettle : Type 0
CodesSettle =
    (bytes bytes' : List ℕ) (s : Shape) (store : List ℕ) (parity : ℕ) → parity ≤ 1 →
    ((x y : ℕ) → x < s.width → y < s.height → code_of bytes s x y ≡ code_of bytes' s x y) →
    (kept_frame bytes s ≡ kept_frame bytes' s) × (busy_field bytes s store parity ≡ busy_field bytes' s store parity)

-- a sample of a picture, read back from the store that `keep` wrote it to, is what is kept of it
abbrev pub KeptReadsBack : Type 0
KeptReadsBack =
    (bytes : List ℕ) (s : Shape) (store : List ℕ) (x y : ℕ) →
    x < s.width → y < s.height → stored_of (over (kept_frame bytes s) store) s.width x y ≡ kept_of bytes s x y

-- a count is settled by the samples inside the two fields
abbrev pub SamplesSettle : Type 0
SamplesSettle =
    (new old new' old' : ℕ → ℕ → ℕ) (width rows : ℕ) →
    ((x r : ℕ) → x < width → r < rows → new x r ≡ new' x r) →
    ((x r : ℕ) → x < width → r < rows → old x r ≡ old' x r) →
    busy_of new old width rows ≡ busy_of new' old' width rows

-- a field that is nowhere more than 8 away from the other has no busy block
abbrev pub NearIsQuiet : Type 0
NearIsQuiet =
    (new old : ℕ → ℕ → ℕ) (width rows : ℕ) →
    ((x r : ℕ) → x < width → r < rows → apart (new x r) (old x r) ≤ 8) → busy_of new old width rows ≡ 0

-- so a frame against itself has none
abbrev pub SameFrameIsQuiet : Type 0
SameFrameIsQuiet = (frame : ℕ → ℕ → ℕ) (width rows : ℕ) → busy_of frame frame width rows ≡ 0

-- nor has a picture, in either field, against the store that `keep` wrote it to
abbrev pub KeptFrameIsQuiet : Type 0
KeptFrameIsQuiet =
    (bytes : List ℕ) (s : Shape) (store : List ℕ) (parity : ℕ) → parity ≤ 1 → busy_field bytes s (over (kept_frame bytes s) store) parity ≡ 0
