-- Values that are not negative, and values from 0 to 1: `NotNegative x` and `Unit x`, neither of which a NaN is. -0 is not negative.
use mathlib.Core.Path.{◌≡◌, refl, sym, ◌∙◌, subst}
use mathlib.Core.Logic.{inl, inr}
use mathlib.Core.Bool.{Bool, true, false, ◌||◌, cond, true≢false}
use Prim.Native.Nat.{ℕ, ◌+◌, ◌*◌, ◌^◌, ◌≤◌, ◌<◌, zero-le}
use native.Mathlib.Nat.{le_trans, le_of_eq, lt_irrefl, not-le_of_lt, eq-zero-or-pos, zero-mul, mul_comm, mul-pos}
use native.Mathlib.Omega.{arith}
use borrow.Author.Tests.{ltb-false}
use lib.Dec.{T, eqb, eqb→eq, ltb→lt}
use lib.IntN.{ℤ, pos}
use lib.Pow.{pow_pos}
use lib.Ieee.{Float, nan, inf, fin, binary32, up, down, round, div, lt, le, is_nan, of_int, of_bits}
use lib.Ieee.Back.{round_whole}
use lib.Ieee.Exact.{HasValue}
use lib.Ieee.Fits.{and_l, up_pos, down_pos}
use lib.Ieee.Order.{le_of_values, round_mono, transfer}
use lib.Ieee.Positive.{positive_of_value}
use lib.Ieee.Scale.{finite, round_same}
use Rattle.float.specs.Float.{zero_f, one_f, abs_of, max_of, clamp_of}
use Rattle.float.specs.Bounds.{AtLeast, Small, Away, NotNegative, Unit}
use Rattle.float.proofs.Order.{signed, le_of_not_lt, at_most}
use Rattle.float.proofs.Rounded.{round_signed, zero_round, div_round}
use Rattle.float.proofs.Small.{away_digits, away_whole, small_finite, small_zero, small_one}

-- ---- not negative, by the sign
-- A number with no minus sign is not negative.
pub not_negative_plus : (x : Float) → T (signed false x) → NotNegative x
unfolding le lt of_bits
not_negative_plus (inf false) p = record { low = tt }
not_negative_plus (fin false m e) p = record {
  low = le_of_values zero_f (fin false m e) 0 1 (m * up e) (down e) (pow_pos 0) (down_pos e) (refl, refl) (refl, refl) (le_trans (le_of_eq (zero-mul (down e))) zero-le);
}
not_negative_plus nan p = elim p [ ]
not_negative_plus (inf true) p = elim p [ ]
not_negative_plus (fin true m e) p = elim p [ ]

no_digits : (m : ℕ) (e : ℤ) (k : ℕ) → 0 < k → m * up e * k ≤ 0 → m ≡ 0
no_digits m e k K h = elim (eq-zero-or-pos m) [ inl z ↦ z | inr l ↦ absurd (not-le_of_lt (mul-pos (mul-pos l (up_pos e)) K) h) ]

-- A number with a minus sign is not negative only where it is -0.
pub minus_zero : (m : ℕ) (e : ℤ) → T (le zero_f (fin true m e)) → m ≡ 0
unfolding le lt of_bits
minus_zero m e h =
    let q : 0 * 1 * down e ≡ m * up e * 1 = eqb→eq (0 * 1 * down e) (m * up e * 1) (and_l (eqb (0 * 1 * down e) (m * up e * 1)) (eqb (0 * 1 * down e) 0) h) in
    no_digits m e 1 (pow_pos 0) (le_of_eq (sym q ∙ simp zero-mul))

-- -0 is not negative.
not_negative_minus : (m : ℕ) (e : ℤ) → m ≡ 0 → NotNegative (fin true m e)
unfolding le lt of_bits
not_negative_minus m e z = record { low = simp (z, zero-mul) tt }

-- ---- not negative, by the operation
-- 0 is not negative.
pub not_negative_zero : NotNegative zero_f
unfolding of_bits
not_negative_zero = not_negative_plus zero_f tt

-- A whole number as a float is not negative.
pub not_negative_whole : (n : ℕ) → NotNegative (of_int binary32 (pos n))
unfolding of_int
not_negative_whole n = not_negative_plus (round binary32 false n 1) (round_signed binary32 false n 1)

-- A finite value without its sign is not negative.
pub not_negative_abs : (x : Float) → T (finite x) → NotNegative (abs_of x)
unfolding abs_of
not_negative_abs (fin s m e) p = not_negative_plus (fin false m e) tt
not_negative_abs nan p = elim p [ ]
not_negative_abs (inf _) p = elim p [ ]

-- A quotient of two values that are not negative, the divisor away from zero, is not negative.
pub not_negative_div : {k : ℕ} {x y : Float} → NotNegative x → Away k y → NotNegative y → NotNegative (div binary32 x y)
unfolding div le lt of_bits
not_negative_div {k} {x} {y} p a q = go x y p.low a.bound q.low
  where
    go : (x y : Float) → T (le zero_f x) → AtLeast k y → T (le zero_f y) → NotNegative (div binary32 x y)
    go x (fin true n d) p a q = absurd (lt_irrefl 0 (subst (λ (z : ℕ). 0 < z) (minus_zero n d q) (away_digits k true n d a)))
    go (inf false) (fin false n d) p a q = not_negative_plus (inf false) tt
    go (fin false m e) (fin false n d) p a q =
        subst NotNegative (sym (div_round binary32 false m e false n d (away_digits k false n d a)))
        (not_negative_plus (round binary32 false (m * up e * down d) (n * up d * down e)) (round_signed binary32 false (m * up e * down d) (n * up d * down e)))
    go (fin true m e) (fin false n d) p a q =
        let N : 0 < n = away_digits k false n d a in
        let c = n * up d * down e in
        let z : m * up e * down d ≡ 0 = simp (minus_zero m e p, zero-mul) in
        rw (div_round binary32 true m e false n d N, z, zero_round binary32 true c (mul-pos (mul-pos N (up_pos d)) (down_pos e)))
        (not_negative_minus 0 (pos 0) refl)
    go x nan p a q = elim a [ ]
    go x (inf _) p a q = elim a [ ]
    go nan (fin false n d) p a q = elim p [ ]
    go (inf true) (fin false n d) p a q = elim p [ ]

neither : (a b : Bool) → (a || b) ≡ false → (a ≡ false) × (b ≡ false)
neither true b h = absurd (true≢false h)
neither false b h = (refl, h)

-- what is not below a value that is not negative, and is no NaN, is not negative
not_below : (x y : Float) → T (le zero_f y) → lt x y ≡ false → is_nan x ≡ false → NotNegative x
unfolding le lt is_nan of_bits
not_below nan y q h g = absurd (true≢false g)
not_below (inf false) y q h g = not_negative_plus (inf false) tt
not_below (fin false m e) y q h g = not_negative_plus (fin false m e) tt
not_below (inf true) (inf false) q h g = absurd (true≢false h)
not_below (inf true) (fin t n d) q h g = absurd (true≢false h)
not_below (fin true m e) (inf false) q h g = absurd (true≢false h)
not_below (fin true m e) (fin false n d) q h g =
    not_negative_minus m e (no_digits m e (down d) (down_pos d) (omega (arith, ltb-false 0 (m * up e * down d + n * up d * down e) h)))
not_below (fin true m e) (fin true n d) q h g =
    let z : n * up d * down e ≡ 0 = simp (minus_zero n d q, zero-mul) in
    not_negative_minus m e (no_digits m e (down d) (down_pos d) (omega (arith, ltb-false (n * up d * down e) (m * up e * down d) h)))
not_below (inf true) nan q h g = elim q [ ]
not_below (inf true) (inf true) q h g = elim q [ ]
not_below (fin true m e) nan q h g = elim q [ ]
not_below (fin true m e) (inf true) q h g = elim q [ ]

-- The greater of any value, a NaN among them, and one that is not negative, as 0, is not negative.
pub not_negative_max : {y : Float} (x : Float) → NotNegative y → NotNegative (max_of x y)
unfolding max_of
not_negative_max {y} x q = go (lt x y || is_nan x) refl
  where
    go : (b : Bool) → (lt x y || is_nan x) ≡ b → NotNegative (cond b y x)
    go true h = q
    go false h = not_below x y q.low (neither (lt x y) (is_nan x) h).0 (neither (lt x y) (is_nan x) h).1

-- ---- from 0 to 1
-- 0 and 1 lie from 0 to 1.
pub unit_zero : Unit zero_f
unfolding le lt of_bits
unit_zero = record { low = tt; high = tt }

pub unit_one : Unit one_f
unfolding le lt of_bits
unit_one = record { low = tt; high = tt }

-- A finite value brought between 0 and 1 lies from 0 to 1.
pub unit_clamp : (x : Float) → T (finite x) → Unit (clamp_of x zero_f one_f)
unfolding clamp_of
unit_clamp x p = go (lt x zero_f) refl (lt one_f x) refl
  where
    go : (a : Bool) → lt x zero_f ≡ a → (b : Bool) → lt one_f x ≡ b → Unit (cond a zero_f (cond b one_f x))
    go true g b h = unit_zero
    go false g true h = unit_one
    go false g false h = record { low = le_of_not_lt x zero_f p (small_finite small_zero) g; high = le_of_not_lt one_f x (small_finite small_one) p h }

one_rounded : round binary32 false 1 1 ≡ one_f
unfolding round of_bits
one_rounded = refl

at_most_one : (x y : Float) (n d : ℕ) → HasValue x false n 1 → HasValue y false d 1 → n ≤ d → 0 < d → T (le (div binary32 x y) one_f)
at_most_one (fin true m e) y n d v w h D = absurd (true≢false v.0)
at_most_one (fin false m e) (fin true a b) n d v w h D = absurd (true≢false w.0)
at_most_one (fin false m e) (fin false a b) n d v w h D =
    let A : 0 < a = ltb→lt 0 a (positive_of_value (fin false a b) d 1 w D) in
    let c = a * up b * down e in
    let less : m * up e * down b ≤ c = transfer (m * up e) (a * up b) (down e) (down b) n d 1 1 (pow_pos 0) (pow_pos 0) v.1 w.1 (omega arith) in
    rw (div_round binary32 false m e false a b A, ← one_rounded)
    (round_mono binary32 (m * up e * down b) c 1 1 (mul-pos (mul-pos A (up_pos b)) (down_pos e)) (pow_pos 0) (omega arith))
at_most_one nan y n d v w h D = elim v [ ]
at_most_one (inf _) y n d v w h D = elim v [ ]
at_most_one (fin false m e) nan n d v w h D = elim w [ ]
at_most_one (fin false m e) (inf _) n d v w h D = elim w [ ]

-- A whole number by one that is no smaller lies from 0 to 1: a sample's code by the largest code.
pub unit_whole_quotient : (n d : ℕ) → n ≤ d → 0 < d → d ≤ 2 ^ 24 → Unit (div binary32 (of_int binary32 (pos n)) (of_int binary32 (pos d)))
unfolding of_int
unit_whole_quotient n d h D l = record {
  low = (not_negative_div (not_negative_whole n) (away_whole d D l) (not_negative_whole d)).low;
  high = at_most_one (round binary32 false n 1) (round binary32 false d 1) n d (round_whole binary32 false n (le_trans h l)) (round_whole binary32 false d l) h D;
}

by_itself : (x : Float) (d : ℕ) → HasValue x false d 1 → 0 < d → div binary32 x x ≡ one_f
by_itself (fin true m e) d v D = absurd (true≢false v.0)
by_itself (fin false m e) d v D =
    let M : 0 < m = ltb→lt 0 m (positive_of_value (fin false m e) d 1 v D) in
    let c = m * up e * down e in
    div_round binary32 false m e false m e M
    ∙ round_same binary32 false c c 1 1 (mul-pos (mul-pos M (up_pos e)) (down_pos e)) (pow_pos 0) (mul_comm c 1)
    ∙ one_rounded
by_itself nan d v D = elim v [ ]
by_itself (inf _) d v D = elim v [ ]

-- A whole number by itself is 1.
pub whole_by_itself : (d : ℕ) → 0 < d → d ≤ 2 ^ 24 → div binary32 (of_int binary32 (pos d)) (of_int binary32 (pos d)) ≡ one_f
unfolding of_int
whole_by_itself d D l = by_itself (round binary32 false d 1) d (round_whole binary32 false d l) D

-- What lies from 0 to 1 is at most 1 in size, and so finite.
pub unit_small : {x : Float} → Unit x → Small 0 x
unfolding le lt of_bits
unit_small {x} u = go x u.low u.high
  where
    go : (x : Float) → T (le zero_f x) → T (le x one_f) → Small 0 x
    go (inf true) p q = absurd p
    go (inf false) p q = absurd q
    go (fin false m e) p q = record { bound = omega (arith, at_most (m * up e * 1) (1 * 1 * down e) q) }
    go (fin true m e) p q = record { bound = le_trans (le_of_eq (simp (minus_zero m e p, zero-mul))) zero-le }
    go nan p q = elim p [ ]
