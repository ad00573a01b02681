-- The ends of a clamp around a value, less and more by an amount that is not negative, are in order.
use mathlib.Core.Path.{◌≡◌, refl}
use mathlib.Core.Bool.{Bool, true, false, cond}
use Prim.Native.Nat.{ℕ, ◌+◌, ◌-◌, ◌*◌, ◌<◌, zero-le}
use native.Mathlib.Nat.{mul-pos, zero-mul}
use native.Mathlib.Omega.{arith}
use borrow.Author.Tests.{le-ltb, ltb-false}
use lib.Dec.{T, ltb}
use lib.Ieee.{Float, fin, Format, binary32, up, down, round, sum, add, sub, neg, le}
use lib.Ieee.Fits.{down_pos}
use lib.Ieee.Scale.{finite}
use Rattle.float.specs.Bounds.{NotNegative}
use Rattle.float.proofs.Order.{signs_le}
use Rattle.float.proofs.Rounded.{round_signed, rounds_le, rounds_ge, zero_round}
use Rattle.float.proofs.Range.{minus_zero}

-- ±a / c less b / c is at most ±a / c more b / c
less_more : (f : Format) (s : Bool) (a b c : ℕ) → 0 < c → T (le (sum f s a true b c) (sum f s a false b c))
unfolding sum
less_more f false a b c C = go (ltb a b)
  where
    go : (x : Bool) → T (le (cond x (round f true (b - a) c) (round f false (a - b) c)) (round f false (a + b) c))
    go true = signs_le (round f true (b - a) c) (round f false (a + b) c) (round_signed f true (b - a) c) (round_signed f false (a + b) c)
    go false = rounds_le f (a - b) (a + b) c C (omega arith)
less_more f true a b c C = go (ltb a b) (ltb b a)
  where
    go : (x y : Bool) → T (le (round f true (a + b) c) (cond x (round f false (b - a) c) (round f y (a - b) c)))
    go true y = signs_le (round f true (a + b) c) (round f false (b - a) c) (round_signed f true (a + b) c) (round_signed f false (b - a) c)
    go false true = rounds_ge f (a - b) (a + b) c C (omega arith)
    go false false = signs_le (round f true (a + b) c) (round f false (a - b) c) (round_signed f true (a + b) c) (round_signed f false (a - b) c)

-- +0 is at most -0
zeros_level : (f : Format) (c : ℕ) → 0 < c → T (le (round f false 0 c) (round f true 0 c))
unfolding le
zeros_level f c C = rw (zero_round f false c C, zero_round f true c C) tt

-- The amount -0, which turns less and more round, moves nothing.
unmoved : (f : Format) (s : Bool) (a c : ℕ) → 0 < c → T (le (sum f s a false 0 c) (sum f s a true 0 c))
unfolding sum
unmoved f false a c C = rw (le-ltb a 0 zero-le) (rounds_le f (a + 0) (a - 0) c C (omega arith))
unmoved f true a c C = rw (le-ltb a 0 zero-le) (go (ltb 0 a) refl)
  where
    go : (y : Bool) → ltb 0 a ≡ y → T (le (round f y (a - 0) c) (round f true (a + 0) c))
    go true h = rounds_ge f (a + 0) (a - 0) c C (omega arith)
    go false h =
        let z : a ≡ 0 = omega (arith, ltb-false 0 a h) in
        rw z (zeros_level f c C)

-- a - m is at most a + m, where m is not negative: -0 among them.
pub ends_in_order : (a m : Float) → T (finite a) → T (finite m) → NotNegative m → T (le (sub binary32 a m) (add binary32 a m))
unfolding sub add neg
ends_in_order (fin s m e) (fin false n d) p q h = less_more binary32 s (m * up e * down d) (n * up d * down e) (down e * down d) (mul-pos (down_pos e) (down_pos d))
ends_in_order (fin s m e) (fin true n d) p q h =
    let z : n * up d * down e ≡ 0 = simp (minus_zero n d h.low, zero-mul) in
    rw z (unmoved binary32 s (m * up e * down d) (down e * down d) (mul-pos (down_pos e) (down_pos d)))
ends_in_order lib.Ieee.nan m p q h = elim p [ ]
ends_in_order (lib.Ieee.inf _) m p q h = elim p [ ]
ends_in_order (fin s m e) lib.Ieee.nan p q h = elim q [ ]
ends_in_order (fin s m e) (lib.Ieee.inf _) p q h = elim q [ ]
