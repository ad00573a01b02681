-- What `round` does in either format: its sign, its order, what it makes of 0, and that it gives back a value that the format holds.
use mathlib.Core.Path.{◌≡◌, refl, sym, ap, ◌∙◌}
use mathlib.Core.Bool.{Bool, true, false, ◌&&◌, beq, cond}
use Prim.Native.Nat.{ℕ, zero, suc, ◌+◌, ◌-◌, ◌*◌, ◌/◌, ◌%◌, ◌^◌, ◌≤◌, ◌<◌, zero-le}
use native.Mathlib.Nat.{le_antisymm, le_of_eq, lt_of_not-le, lt_of_mul-lt-mul_right, mul-lt-mul_of_pos_right, mul-le-mul_right, not-le_of_lt, mul_assoc, mul_comm, mul_right_comm, mul-one, one-mul, zero-mul, mul-pos}
use native.Mathlib.Omega.{arith}
use borrow.Author.Tests.{ne_eqb}
use lib.Dec.{T, ltb, leb, eqb, lt→ltb, ltb→lt, leb→le}
use lib.IntN.{ℤ, pos, negsuc}
use lib.Pow.{pow-add, pow_pos, pow-lt}
use lib.Ieee.{Float, inf, fin, Format, prec, emax, low, up, down, odd, units, round, neg, div, unlike, le, fits, to_bits, of_bits}
use lib.Ieee.Bits.{of_bits-to_bits}
use lib.Ieee.Digits.{back}
use lib.Ieee.Fits.{round_is, round-fits, and_l, and_r, down_pos}
use lib.Ieee.Exact.{HasValue, round_exact}
use lib.Ieee.Nearest.{closest_mono, div_same}
use lib.Ieee.Order.{drop, kept, round_mono}
use Rattle.float.proofs.Order.{signed, neg_le}

-- ---- the sign
same_sign : (s : Bool) → T (beq s s)
same_sign true = tt
same_sign false = tt

odd_signed : (d : ℕ) (s : Bool) (q k l : ℕ) → T (signed s (odd d s q k l))
unfolding odd
odd_signed d s zero k l = same_sign s
odd_signed d s (suc q) k l = same_sign s

units_signed : (f : Format) (s : Bool) (q k : ℕ) → T (signed s (units f s q k))
unfolding units
units_signed f s q k = go (ltb (q * 2 ^ k) (2 ^ (low f + suc (emax f))))
  where
    go : (b : Bool) → T (signed s (cond b (odd (suc (prec f)) s q k (low f)) (inf s)))
    go true = odd_signed (suc (prec f)) s q k (low f)
    go false = same_sign s

-- What is rounded with the sign s has the sign s.
pub round_signed : (f : Format) (s : Bool) (a c : ℕ) → T (signed s (round f s a c))
round_signed f s a c = rw round_is (units_signed f s (kept (prec f) (a * 2 ^ low f) c) (drop (prec f) (a * 2 ^ low f) c))

-- ---- the other sign
odd_neg : (d q k l : ℕ) → odd d true q k l ≡ neg (odd d false q k l)
unfolding odd neg
odd_neg d zero k l = refl
odd_neg d (suc q) k l = refl

units_neg : (f : Format) (q k : ℕ) → units f true q k ≡ neg (units f false q k)
unfolding units neg
units_neg f q k = go (ltb (q * 2 ^ k) (2 ^ (low f + suc (emax f))))
  where
    go : (b : Bool) → cond b (odd (suc (prec f)) true q k (low f)) (inf true) ≡ neg (cond b (odd (suc (prec f)) false q k (low f)) (inf false))
    go true = odd_neg (suc (prec f)) q k (low f)
    go false = refl

-- The other sign gives the other value.
round_neg : (f : Format) (a c : ℕ) → round f true a c ≡ neg (round f false a c)
round_neg f a c = round_is f true a c ∙ units_neg f (kept (prec f) (a * 2 ^ low f) c) (drop (prec f) (a * 2 ^ low f) c) ∙ ap neg (sym (round_is f false a c))

-- ---- the order
-- Of two fractions with one denominator, the larger rounds to no less.
pub rounds_le : (f : Format) (a b c : ℕ) → 0 < c → a ≤ b → T (le (round f false a c) (round f false b c))
rounds_le f a b c C h = round_mono f a c b c C C (mul-le-mul_right c h)

-- With a minus sign it rounds to no more.
pub rounds_ge : (f : Format) (a b c : ℕ) → 0 < c → a ≤ b → T (le (round f true b c) (round f true a c))
rounds_ge f a b c C h =
    simp round_neg
    (neg_le (round f false a c) (round f false b c) (round_signed f false a c) (round_signed f false b c) (rounds_le f a b c C h))

-- ---- zero
zero_kept : (p c : ℕ) → 0 < c → kept p 0 c ≡ 0
zero_kept p c C =
    let u = c * 2 ^ drop p 0 c in
    le_antisymm (closest_mono 0 u 0 1 (mul-pos C (pow_pos (drop p 0 c))) (pow_pos 0) (le_of_eq (zero-mul 1 ∙ sym (zero-mul u)))) zero-le

zero_units : (f : Format) (s : Bool) (k : ℕ) → units f s 0 k ≡ fin s 0 (pos 0)
unfolding units odd
zero_units f s k = go (ltb (0 * 2 ^ k) (2 ^ (low f + suc (emax f)))) (lt→ltb (0 * 2 ^ k) (2 ^ (low f + suc (emax f))) (rw zero-mul (pow_pos (low f + suc (emax f)))))
  where
    go : (b : Bool) → T b → cond b (fin s 0 (pos 0)) (inf s) ≡ fin s 0 (pos 0)
    go true t = refl
    go false t = elim t [ ]

-- 0 / c rounds to the zero of its sign.
pub zero_round : (f : Format) (s : Bool) (c : ℕ) → 0 < c → round f s 0 c ≡ fin s 0 (pos 0)
zero_round f s c C =
    round_is f s 0 c
    ∙ ap (λ (n : ℕ). units f s (kept (prec f) n c) (drop (prec f) n c)) (zero-mul (2 ^ low f))
    ∙ ap (λ (q : ℕ). units f s q (drop (prec f) 0 c)) (zero_kept (prec f) c C)
    ∙ zero_units f s (drop (prec f) 0 c)

-- ---- a value that the format holds
-- 2 ^ e in units of the format's smallest value, 2 ^ -l, is a power of two, unless it is below one
power : (e : ℤ) (l : ℕ) → down e ≤ 2 ^ l → (j : ℕ) × (up e * 2 ^ l ≡ 2 ^ j * down e)
power (pos a) l h = (a + l, sym (pow-add 2 a l) ∙ sym (mul-one (2 ^ (a + l))))
power (negsuc b) l h = (l - suc b, one-mul (2 ^ l) ∙ ap (λ (x : ℕ). 2 ^ x) (sym (back l (suc b) enough)) ∙ pow-add 2 (l - suc b) (suc b))
  where
    enough : suc b ≤ l
    enough = lt_of_not-le (λ (g : l ≤ b). not-le_of_lt (pow-lt (omega arith)) h)

-- What `fits` says of a value other than zero.
pub held : (f : Format) (s : Bool) (m : ℕ) (e : ℤ) → T (fits f (fin s (suc m) e)) → (suc m < 2 ^ prec f) × (down e ≤ 2 ^ low f) × (suc m * up e < 2 ^ suc (emax f) * down e)
unfolding fits
held f s m e t =
    let a : Bool = eqb (suc m % 2) 1 in
    let b : Bool = ltb (suc m) (2 ^ prec f) in
    let c : Bool = leb (down e) (2 ^ low f) in
    let d : Bool = ltb (suc m * up e) (2 ^ suc (emax f) * down e) in (
      ltb→lt (suc m) (2 ^ prec f) (and_r a b (and_l (a && b) c (and_l (a && b && c) d t))),
      leb→le (down e) (2 ^ low f) (and_r (a && b) c (and_l (a && b && c) d t)),
      ltb→lt (suc m * up e) (2 ^ suc (emax f) * down e) (and_r (a && b && c) d t),
    )

-- so it does not change where it is rounded
exact : (f : Format) (s : Bool) (m : ℕ) (e : ℤ) → T (fits f (fin s m e)) → HasValue (round f s (m * up e) (down e)) s (m * up e) (down e)
exact f s zero e t = round_exact f s (0 * up e) (down e) 0 0 (down_pos e) (pow_pos (prec f)) (pow_pos (low f + suc (emax f))) (simp zero-mul)
exact f s (suc m) e t =
    let h = held f s m e t in
    let p = power e (low f) h.1 in
    let q : suc m * up e * 2 ^ low f ≡ suc m * 2 ^ p.0 * down e =
    mul_assoc (suc m) (up e) (2 ^ low f) ∙ ap (λ (x : ℕ). suc m * x) p.1 ∙ sym (mul_assoc (suc m) (2 ^ p.0) (down e)) in
    let r : suc m * up e * 2 ^ low f < 2 ^ suc (emax f) * down e * 2 ^ low f = mul-lt-mul_of_pos_right h.2 (pow_pos (low f)) in
    let limit : 2 ^ suc (emax f) * down e * 2 ^ low f ≡ 2 ^ (low f + suc (emax f)) * down e =
    mul_right_comm (2 ^ suc (emax f)) (down e) (2 ^ low f) ∙ ap (λ (x : ℕ). x * down e) (mul_comm (2 ^ suc (emax f)) (2 ^ low f) ∙ sym (pow-add 2 (low f) (suc (emax f)))) in
    round_exact f s (suc m * up e) (down e) (suc m) p.0 (down_pos e) h.0 (lt_of_mul-lt-mul_right (down e) (rw (← q, ← limit) r)) q

-- equal values have the same bits
same_bits : (f : Format) (x : Float) (s : Bool) (m : ℕ) (e : ℤ) → HasValue x s (m * up e) (down e) → to_bits f x ≡ to_bits f (fin s m e)
unfolding to_bits
same_bits f (fin t n d) s m e v =
    let l = 2 ^ low f in
    let cross : n * up d * l * down e ≡ m * up e * l * down d =
    mul_right_comm (n * up d) l (down e) ∙ ap (λ (x : ℕ). x * l) v.1 ∙ mul_right_comm (m * up e) (down d) l in
    let same : n * up d * l / down d ≡ m * up e * l / down e = div_same (n * up d * l) (down d) (m * up e * l) (down e) (down_pos d) (down_pos e) cross in
    rw (v.0, same)
same_bits f lib.Ieee.nan s m e v = elim v [ ]
same_bits f (inf _) s m e v = elim v [ ]

-- A value that the format holds, as a fraction, rounds to itself.
pub round_back : (f : Format) (s : Bool) (m : ℕ) (e : ℤ) → T (fits f (fin s m e)) → round f s (m * up e) (down e) ≡ fin s m e
round_back f s m e t =
    let x = round f s (m * up e) (down e) in
    sym (of_bits-to_bits f x (round-fits f s (m * up e) (down e))) ∙ ap (of_bits f) (same_bits f x s m e (exact f s m e t)) ∙ of_bits-to_bits f (fin s m e) t

-- ---- quotients
-- A quotient by a value other than zero is one rounding.
pub div_round : (f : Format) (s : Bool) (m : ℕ) (e : ℤ) (t : Bool) (n : ℕ) (d : ℤ) → 0 < n
    → div f (fin s m e) (fin t n d) ≡ round f (unlike s t) (m * up e * down d) (n * up d * down e)
unfolding div
div_round f s m e t n d N = rw (ne_eqb n 0 (λ (z : n ≡ 0). omega arith))
