-- A number's eight bytes, as the library writes them.
use Prim.Native.Nat.{ℕ, ◌/◌}
use mathlib.Core.Path.{◌≡◌}
use native.Mathlib.Nat.{div-one}
use Rattle.std.specs.Int.{w64, to_le_bytes}
use Rattle.laws.specs.Rows.{listed}
use Rattle.packed.specs.Packed.{eight_bytes}

pub eight_written : (n : ℕ) → to_le_bytes w64 n ≡ eight_bytes n
unfolding eight_bytes listed
eight_written n = let whole : n / 1 ≡ n = div-one n in rw whole
