-- A number cut to some bits, as a signed one of 64 bits and of 32.
use Prim.Native.Nat.{ℕ, ◌*◌, ◌/◌, ◌%◌, ◌≤◌, ◌<◌, ◌^◌}
use mathlib.Core.Path.{◌≡◌, ap, ◌∙◌}
use mathlib.Core.Bool.{Bool, true, false, cond}
use native.Mathlib.Nat.{mod-lt, mod-eq_of_lt, one-mul, one-le-pow}
use native.Mathlib.Omega.{arith}
use Rattle.std.proofs.Math.Nat.{pow-le-pow_right}
use lib.Dec.{lit<, eqb}
use lib.IntN.{ℤ, pos, negsuc}
use mir.Syntax.{Width, w32, w64}
use mir.Val.{SFits, to_z, of_z, hbits}
use mir.ValLaws.{to_z-of_z}
use Rattle.answers.specs.Record.{signed_of}

power_below : (bits : ℕ) → bits ≤ 63 → 2 ^ bits ≤ 2 ^ 63
power_below bits h = pow-le-pow_right (lit< tt) h

pub power : (bits : ℕ) → bits ≤ 63 → 1 * 2 ^ bits % 18446744073709551616 ≡ 2 ^ bits
power bits h =
    let small : 2 ^ bits < 18446744073709551616 = omega (arith, power_below bits h) in
    ap (λ (n : ℕ). n % 18446744073709551616) (one-mul (2 ^ bits)) ∙ mod-eq_of_lt small

pub cut_below : (n bits : ℕ) → bits ≤ 63 → n / 2 % 2 ^ bits < 2 ^ 63
cut_below n bits h = omega (arith, mod-lt (n / 2) (one-le-pow bits 2 (lit< tt)), power_below bits h)

-- Of 31 bits it fits 64, and 32.
fits : (w : Width) (b : Bool) (m : ℕ) → m < 2 ^ hbits w → SFits w (cond b (pos m) (negsuc m))
fits w true m h = record { sfits = h }
fits w false m h = record { sfits = h }

module _ (n : ℕ) where
  half : n / 2 % 2 ^ 31 < 2 ^ 31
  half = mod-lt (n / 2) (lit< tt)

  pub small_signed : SFits w32 (signed_of 31 n)
  unfolding signed_of
  small_signed = fits w32 (eqb (n % 2) 0) (n / 2 % 2 ^ 31) half

  wide_signed : SFits w64 (signed_of 31 n)
  unfolding signed_of
  wide_signed = fits w64 (eqb (n % 2) 0) (n / 2 % 2 ^ 31) (omega (arith, half))

  pub widened : {z : ℤ} → z ≡ signed_of 31 n → to_z w64 (of_z w64 z) ≡ signed_of 31 n
  widened e = ap (λ (z : ℤ). to_z w64 (of_z w64 z)) e ∙ to_z-of_z w64 (signed_of 31 n) wide_signed
