-- Bounds on floats, in terms of whole numbers. `up e` and `down e` are 2 ^ e as a fraction, so the size of `fin s m e` is m * up e / down e.
use Rattle.std.specs.Prelude.{ℕ, ◌*◌, ◌^◌, ◌≤◌, true, false, T, Float}
use Rattle.std.specs.Float.{nan, inf, fin}
use Rattle.std.specs.Float.Ieee.{up, down, le}
use Rattle.float.specs.Float.{zero_f, one_f}

-- x is finite, and |x| ≤ 2 ^ k
abbrev pub AtMost : ℕ → Float → Type 0
AtMost k nan = ⊥
AtMost k (inf s) = ⊥
AtMost k (fin s m e) = m * up e ≤ 2 ^ k * down e

-- x is finite, and 2 ^ -k ≤ |x|
abbrev pub AtLeast : ℕ → Float → Type 0
AtLeast k nan = ⊥
AtLeast k (inf s) = ⊥
AtLeast k (fin s m e) = down e ≤ 2 ^ k * (m * up e)

-- The same as records, so that x can be inferred from a hypothesis: finite and at most 2 ^ k in size, and finite and at least 2 ^ -k in size.
pub record Small (k : ℕ) (x : Float) : Type 0 where
  pub bound : AtMost k x

pub record Away (k : ℕ) (x : Float) : Type 0 where
  pub bound : AtLeast k x

-- x is finite, has no minus sign, and is at most 255
abbrev pub UpToByte : Float → Type 0
UpToByte nan = ⊥
UpToByte (inf s) = ⊥
UpToByte (fin true m e) = ⊥
UpToByte (fin false m e) = m * up e ≤ 255 * down e

pub record InByte (x : Float) : Type 0 where
  pub bound : UpToByte x

-- 0 ≤ x, so no NaN
pub record NotNegative (x : Float) : Type 0 where
  pub low : T (le zero_f x)

-- 0 ≤ x ≤ 1, so no NaN
pub record Unit (x : Float) : Type 0 where
  pub low : T (le zero_f x)
  pub high : T (le x one_f)
