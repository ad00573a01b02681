-- What the definitions and contracts of `plane` come to. proofs/Claims.antt proves each claim under its name in small letters.
use Rattle.std.specs.Prelude.{ℕ, ◌-◌, ◌^◌, ◌<◌, ◌≤◌, ◌≡◌, Bool, true, false, not, ◌&&◌, List, [], ◌∷◌, ltb, ℤ, pos, ◌+ℤ◌, ◌*ℤ◌, get_or}
use Rattle.laws.specs.Refusal.{Says}
use Rattle.float.specs.Float.{one_f}
use Rattle.float.specs.Bounds.{Unit}
use Rattle.plane.specs.declared.Shape.{Shape}
use Rattle.plane.specs.declared.Layout.{Layout}
use Rattle.plane.specs.declared.Layout.TheVariants.{Luma}
use Rattle.plane.specs.Plane.{unshifted, biplanar, word_of, full_code, code_of, value_of}
use Rattle.plane.specs.Coordinates.{in_reach, held, parity_of, bias_of, unbiased}
use Rattle.plane.specs.Answer.{code_tests, at_tests}

-- 0 exactly when no number applies, and n exactly when n applies and no lower one does
abbrev pub AtSays : Type 0
AtSays = (s : Shape) (bytes : ℕ) (x y : ℤ) → Says (at_tests s bytes x y)

abbrev pub CodeSays : Type 0
CodeSays = (s : Shape) (bytes : ℕ) (x y : ℤ) → Says (code_tests s bytes x y)

-- every element is a byte
abbrev pub AllBytes : List ℕ → Type 0
AllBytes bytes = (i : ℕ) → get_or bytes i 0 < 256

-- A code is at most the largest of its depth, of any list and any shape,
abbrev pub CodeWithinDepth : Type 0
CodeWithinDepth = (bytes : List ℕ) (s : Shape) (x y : ℕ) → code_of bytes s x y ≤ full_code s.depth

-- so that every value lies in 0..1.
abbrev pub ValueInUnit : Type 0
ValueInUnit = (bytes : List ℕ) (s : Shape) (x y : ℤ) → Unit (value_of bytes s x y)

-- A word that is not above the largest code is the code,
abbrev pub WordWithinIsCode : Type 0
WordWithinIsCode = (bytes : List ℕ) (s : Shape) (x y : ℕ) → word_of bytes s x y ≤ full_code s.depth → code_of bytes s x y ≡ word_of bytes s x y

-- one that is not below it counts as the largest,
abbrev pub WordAboveIsFull : Type 0
WordAboveIsFull = (bytes : List ℕ) (s : Shape) (x y : ℕ) → full_code s.depth ≤ word_of bytes s x y → code_of bytes s x y ≡ full_code s.depth

-- and reads as 1.
abbrev pub WordAboveIsOne : Type 0
WordAboveIsOne =
    (bytes : List ℕ) (s : Shape) (x y : ℤ) →
    full_code s.depth ≤ word_of bytes s (held s.width x) (held s.height y) → value_of bytes s x y ≡ one_f

-- the largest code of every depth that a plane may have
abbrev pub FullIsLargest : Type 0
FullIsLargest = (depth : ℕ) → 8 ≤ depth → depth ≤ 16 → full_code depth ≡ 2 ^ depth - 1

-- whether a word may be above the largest code, its bytes being bytes: a planar one from 9 to 15 bits deep
abbrev pub may_exceed : Layout → ℕ → Bool
may_exceed layout depth = ltb 8 depth && ltb depth 16 && not (biplanar layout)

-- Of such a plane the word of bytes FF FF is;
abbrev pub TheseExceed : Type 0
TheseExceed = (s : Shape) → may_exceed s.layout s.depth ≡ true → full_code s.depth < word_of (0xFF ∷ 0xFF ∷ []) s 0 0

-- of every other plane each word is a code.
abbrev pub OthersAreWithin : Type 0
OthersAreWithin =
    (bytes : List ℕ) → AllBytes bytes → (s : Shape) → may_exceed s.layout s.depth ≡ false → (x y : ℕ) → code_of bytes s x y ≡ word_of bytes s x y

-- One sample of ten bits. Of a planar plane the bytes FF 07 are a word above full, and count as full; FF 03 are full, and FE 03 one less. The bytes
-- 00 80 of a biplanar luma are the code 512: their word is shifted first, and then it is not above full.
abbrev pub OneSampleOfTen : Type 0
OneSampleOfTen =
    (word_of (0xFF ∷ 0x07 ∷ []) (unshifted 1 1 10 2) 0 0 ≡ 2047)
    × (code_of (0xFF ∷ 0x07 ∷ []) (unshifted 1 1 10 2) 0 0 ≡ 1023)
    × (code_of (0xFF ∷ 0x03 ∷ []) (unshifted 1 1 10 2) 0 0 ≡ 1023)
    × (code_of (0xFE ∷ 0x03 ∷ []) (unshifted 1 1 10 2) 0 0 ≡ 1022)
    × (code_of (0x00 ∷ 0x80 ∷ []) (record { width = 1; height = 1; depth = 10; stride = 2; layout = Luma }) 0 0 ≡ 512)

-- What the bias means: the held coordinate is the signed one, and a row's parity is that of its held coordinate.
abbrev pub BiasKeeps : Type 0
BiasKeeps = (x : ℤ) → in_reach x ≡ true → unbiased (bias_of x) ≡ x

abbrev pub BiasIsEven : Type 0
BiasIsEven = (x : ℤ) → in_reach x ≡ true → parity_of x ≡ parity_of (pos (bias_of x))

-- the parity is the Euclidean remainder, of a negative row too: y = 2 q + r with 0 ≤ r < 2
pub record Euclidean (y : ℤ) : Type 0 where
  pub quotient : ℤ
  pub splits : quotient *ℤ pos 2 +ℤ pos (parity_of y) ≡ y
  pub small : parity_of y < 2

abbrev pub ParityIsEuclidean : Type 0
ParityIsEuclidean = (y : ℤ) → Euclidean y
