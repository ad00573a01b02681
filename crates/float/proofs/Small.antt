-- The size of floats: one law for each operation, so that a bound on a result is read off its term, as in interval arithmetic.
-- `Small k x` says that x is finite and at most 2 ^ k in size, and `Away k x` that it is finite and at least 2 ^ -k in size.
-- A condition on the exponents alone is a computed test: a caller writes `tt`.
use mathlib.Core.Path.{◌≡◌, sym, ap, ◌∙◌, subst}
use mathlib.Core.Logic.{inl, inr}
use mathlib.Core.Bool.{Bool, true, false, ◌&&◌, ◌||◌, beq, cond}
use Prim.Native.Nat.{ℕ, suc, ◌+◌, ◌-◌, ◌*◌, ◌/◌, ◌^◌, ◌≤◌, ◌<◌}
use native.Mathlib.Nat.{le_refl, le_trans, le_of_eq, lt_of_le_of_lt, not-le_of_lt, eq-zero-or-pos, mul_comm, mul_assoc, mul_left_comm, mul-one, mul-zero, zero-mul, mul-pos, mul-le-mul, mul-le-mul_right, mul-lt-mul_of_pos_right, le_of_mul-le-mul_right, le-mul_of_pos_right, div-lt_iff_lt-mul, div-one, mod-one, pow-succ', add-mul}
use native.Mathlib.Omega.{arith}
use lib.Dec.{T, ltb, leb, leb→le, lit≤}
use lib.IntN.{ℤ, pos}
use lib.Pow.{pow-add, pow_pos, pow_mono, pow-lt}
use lib.Ieee.{Float, fin, Format, binary32, prec, emax, low, up, down, size, units, round, sum, add, sub, neg, mul, div, unlike, lt, is_nan, of_int, of_bits}
use lib.Ieee.Digits.{size-le, back}
use lib.Ieee.Fits.{round_is, two, two-le_pos, up_pos, down_pos}
use lib.Ieee.Exact.{HasValue, units_val}
use lib.Ieee.Back.{round_whole}
use lib.Ieee.Nearest.{closest, closest_mono}
use lib.Ieee.Order.{drop, kept}
use lib.Ieee.Scale.{finite}
use Rattle.float.specs.Float.{zero_f, one_f, abs_of, min_of, max_of, clamp_of}
use Rattle.float.specs.Bounds.{AtMost, AtLeast, Small, Away}
use Rattle.float.proofs.Rounded.{div_round}

-- ---- rounding
closest_one : (w : ℕ) → closest w 1 ≡ w
closest_one w = rw (div-one, mod-one)

spare : (z p k : ℕ) → 0 < p → z ≤ suc k → z - p ≤ k
spare z p k P h = omega arith

-- n / c is at most 2 ^ k: so is what `round` keeps of it
kept_small : (p n c k : ℕ) → 0 < p → 0 < c → n ≤ 2 ^ k * c → kept p n c * 2 ^ drop p n c ≤ 2 ^ k
kept_small p n c k P C h =
    let d = drop p n c in
    let under : n / c < 2 ^ suc k = (div-lt_iff_lt-mul C).1 (lt_of_le_of_lt h (mul-lt-mul_of_pos_right (pow-lt (le_refl (suc k))) C)) in
    let D : d ≤ k = spare (size (n / c)) p k P (size-le (n / c) (suc k) under) in
    let e : 2 ^ (k - d) * 2 ^ d ≡ 2 ^ k = sym (pow-add 2 (k - d) d) ∙ ap (λ (x : ℕ). 2 ^ x) (back k d D) in
    let s : 2 ^ (k - d) * (c * 2 ^ d) ≡ 2 ^ k * c = mul_left_comm (2 ^ (k - d)) c (2 ^ d) ∙ ap (λ (x : ℕ). c * x) e ∙ mul_comm c (2 ^ k) in
    le_trans (mul-le-mul_right (2 ^ d) (le_trans (closest_mono n (c * 2 ^ d) (2 ^ (k - d)) 1 (mul-pos C (pow_pos d)) (pow_pos 0) (omega arith)) (le_of_eq (closest_one (2 ^ (k - d))))))
    (le_of_eq e)

-- a value of g / 2 ^ l is at most 2 ^ k where g is at most 2 ^ (k + l)
small_value : (k l g : ℕ) (s : Bool) (x : Float) → HasValue x s g (2 ^ l) → g ≤ 2 ^ (k + l) → Small k x
small_value k l g s (fin t m e) v h = record {
  bound =
      le_of_mul-le-mul_right
      (le_trans (le_of_eq v.1) (le_trans (mul-le-mul_right (down e) h) (le_of_eq (simp (pow-add, mul_assoc, mul_comm, mul_left_comm)))))
      (pow_pos l);
}
small_value k l g s lib.Ieee.nan v h = elim v [ ]
small_value k l g s (lib.Ieee.inf _) v h = elim v [ ]

beyond : (k l m : ℕ) → k ≤ m → k + l < l + suc m
beyond k l m h = omega arith

-- A fraction that is at most 2 ^ k rounds to at most 2 ^ k.
pub small_round : {k : ℕ} (f : Format) (s : Bool) (a c : ℕ) → 0 < c → a ≤ 2 ^ k * c → T (leb k (emax f)) → Small k (round f s a c)
small_round {k} f s a c C h t =
    let l = low f in
    let n = a * 2 ^ l in
    let q = kept (prec f) n c in
    let d = drop (prec f) n c in
    let b : n ≤ 2 ^ (k + l) * c = le_trans (mul-le-mul_right (2 ^ l) h) (le_of_eq (simp (pow-add, mul_assoc, mul_comm, mul_left_comm))) in
    let g : q * 2 ^ d ≤ 2 ^ (k + l) = kept_small (prec f) n c (k + l) (two-le_pos (prec f) (two f)) C b in
    subst (Small k) (sym (round_is f s a c))
    (small_value k l (q * 2 ^ d) s (units f s q d) (units_val f s q d (lt_of_le_of_lt g (pow-lt (beyond k l (emax f) (leb→le k (emax f) t))))) g)

-- ---- a choice, and so what only chooses
-- What holds of both values holds of either, whatever chooses.
pub choice : (P : Float → Type 0) {x y : Float} (b : Bool) → P x → P y → P (cond b x y)
choice P true p q = p
choice P false p q = q

-- Of two values at most 2 ^ k, either is at most 2 ^ k.
small_choice : {k : ℕ} {x y : Float} (b : Bool) → Small k x → Small k y → Small k (cond b x y)
small_choice {k} = choice (Small k)

-- So is the lesser.
pub small_min : {k : ℕ} {x y : Float} → Small k x → Small k y → Small k (min_of x y)
unfolding min_of
small_min {k} {x} {y} p q = small_choice (lt y x || is_nan x) q p

-- So is the greater.
pub small_max : {k : ℕ} {x y : Float} → Small k x → Small k y → Small k (max_of x y)
unfolding max_of
small_max {k} {x} {y} p q = small_choice (lt x y || is_nan x) q p

-- So is what is brought between two ends.
pub small_clamp : {k : ℕ} {x least most : Float} → Small k x → Small k least → Small k most → Small k (clamp_of x least most)
unfolding clamp_of
small_clamp {k} {x} {least} {most} p q r = small_choice (lt x least) q (small_choice (lt most x) r p)

-- ---- the sign does not matter
-- The value of the other sign is as large.
pub small_neg : {k : ℕ} {x : Float} → Small k x → Small k (neg x)
unfolding neg
small_neg {k} {x} p = go x p.bound
  where
    go : (x : Float) → AtMost k x → Small k (neg x)
    go (fin s m e) a = record { bound = a }
    go lib.Ieee.nan a = elim a [ ]
    go (lib.Ieee.inf _) a = elim a [ ]

-- The value without its sign is as large.
pub small_abs : {k : ℕ} {x : Float} → Small k x → Small k (abs_of x)
unfolding abs_of
small_abs {k} {x} p = go x p.bound
  where
    go : (x : Float) → AtMost k x → Small k (abs_of x)
    go (fin s m e) a = record { bound = a }
    go lib.Ieee.nan a = elim a [ ]
    go (lib.Ieee.inf _) a = elim a [ ]

-- ---- sums
double : (k c : ℕ) → 2 ^ suc k * c ≡ 2 ^ k * c + 2 ^ k * c
double k c = ap (λ (x : ℕ). x * c) (pow-succ' 2 k ∙ twice (2 ^ k)) ∙ add-mul (2 ^ k) (2 ^ k) c
  where
    twice : (x : ℕ) → 2 * x ≡ x + x
    twice x = omega arith

small_sum : (k : ℕ) (s : Bool) (a : ℕ) (t : Bool) (b c : ℕ) → 0 < c → a ≤ 2 ^ k * c → b ≤ 2 ^ k * c → T (ltb k 127) → Small (suc k) (sum binary32 s a t b c)
unfolding sum
small_sum k s a t b c C A B r =
    small_choice (beq s t) (small_round binary32 s (a + b) c C (omega (arith, double k c)) r)
    (small_choice (ltb a b) (small_round binary32 t (b - a) c C (omega (arith, double k c)) r)
    (small_round binary32 (s && ltb b a) (a - b) c C (omega (arith, double k c)) r))

-- The sum of two values at most 2 ^ k is at most 2 ^ (k + 1).
pub small_add : {k : ℕ} {x y : Float} → Small k x → Small k y → T (ltb k 127) → Small (suc k) (add binary32 x y)
unfolding add
small_add {k} {x} {y} p q r = go x y p.bound q.bound
  where
    go : (x y : Float) → AtMost k x → AtMost k y → Small (suc k) (add binary32 x y)
    go (fin s m e) (fin t n d) a b =
        small_sum k s (m * up e * down d) t (n * up d * down e) (down e * down d) (mul-pos (down_pos e) (down_pos d))
        (le_trans (mul-le-mul_right (down d) a) (le_of_eq (simp (mul_assoc, mul_comm, mul_left_comm))))
        (le_trans (mul-le-mul_right (down e) b) (le_of_eq (simp (mul_assoc, mul_comm, mul_left_comm))))
        r
    go lib.Ieee.nan _ a b = elim a [ ]
    go (lib.Ieee.inf _) _ a b = elim a [ ]
    go (fin s m e) lib.Ieee.nan a b = elim b [ ]
    go (fin s m e) (lib.Ieee.inf _) a b = elim b [ ]

-- So is their difference.
pub small_sub : {k : ℕ} {x y : Float} → Small k x → Small k y → T (ltb k 127) → Small (suc k) (sub binary32 x y)
unfolding sub
small_sub p q r = small_add p (small_neg q) r

-- ---- products and quotients
-- The product of values at most 2 ^ j and 2 ^ k is at most 2 ^ (j + k).
pub small_mul : {j k : ℕ} {x y : Float} → Small j x → Small k y → T (leb (j + k) 127) → Small (j + k) (mul binary32 x y)
unfolding mul
small_mul {j} {k} {x} {y} p q r = go x y p.bound q.bound
  where
    go : (x y : Float) → AtMost j x → AtMost k y → Small (j + k) (mul binary32 x y)
    go (fin s m e) (fin t n d) a b =
        small_round binary32 (unlike s t) (m * up e * (n * up d)) (down e * down d) (mul-pos (down_pos e) (down_pos d))
        (le_trans (mul-le-mul a b) (le_of_eq (simp (pow-add, mul_assoc, mul_comm, mul_left_comm))))
        r
    go lib.Ieee.nan _ a b = elim a [ ]
    go (lib.Ieee.inf _) _ a b = elim a [ ]
    go (fin s m e) lib.Ieee.nan a b = elim b [ ]
    go (fin s m e) (lib.Ieee.inf _) a b = elim b [ ]

-- What is at least 2 ^ -k in size is not zero.
pub away_digits : (k : ℕ) (s : Bool) (n : ℕ) (d : ℤ) → AtLeast k (fin s n d) → 0 < n
away_digits k s n d a = elim (eq-zero-or-pos n) [
  | inl z ↦ absurd (not-le_of_lt (down_pos d) (le_trans a (le_of_eq (simp (z, zero-mul, mul-zero)))))
  | inr h ↦ h
]

-- The quotient of a value at most 2 ^ j by one at least 2 ^ -k is at most 2 ^ (j + k).
pub small_div : {j k : ℕ} {x y : Float} → Small j x → Away k y → T (leb (j + k) 127) → Small (j + k) (div binary32 x y)
small_div {j} {k} {x} {y} p q r = go x y p.bound q.bound
  where
    go : (x y : Float) → AtMost j x → AtLeast k y → Small (j + k) (div binary32 x y)
    go (fin s m e) (fin t n d) a b =
        let N : 0 < n = away_digits k t n d b in
        subst (Small (j + k)) (sym (div_round binary32 s m e t n d N))
        (small_round binary32 (unlike s t) (m * up e * down d) (n * up d * down e) (mul-pos (mul-pos N (up_pos d)) (down_pos e))
        (le_trans (mul-le-mul a b) (le_of_eq (simp (pow-add, mul_assoc, mul_comm, mul_left_comm))))
        r)
    go lib.Ieee.nan _ a b = elim a [ ]
    go (lib.Ieee.inf _) _ a b = elim a [ ]
    go (fin s m e) lib.Ieee.nan a b = elim b [ ]
    go (fin s m e) (lib.Ieee.inf _) a b = elim b [ ]

-- ---- whole numbers
-- A whole number up to 2 ^ k is at most 2 ^ k as a float, rounded or not.
pub small_whole : (k n : ℕ) → n ≤ 2 ^ k → T (leb k 127) → Small k (of_int binary32 (pos n))
unfolding of_int
small_whole k n h t = small_round binary32 false n 1 (pow_pos 0) (le_trans h (le_of_eq (sym (mul-one (2 ^ k))))) t

-- A whole number from 1 to 2 ^ 24, where the format has no gaps, is at least 1 as a float.
pub away_whole : (n : ℕ) → 0 < n → n ≤ 2 ^ 24 → Away 0 (of_int binary32 (pos n))
unfolding of_int
away_whole n N h = go (round binary32 false n 1) (round_whole binary32 false n h)
  where
    go : (x : Float) → HasValue x false n 1 → Away 0 x
    go (fin t m e) v = record { bound = le_trans (le-mul_of_pos_right (down e) N) (le_of_eq (mul_comm (down e) n ∙ sym v.1 ∙ mul_comm (m * up e) 1)) }
    go lib.Ieee.nan v = elim v [ ]
    go (lib.Ieee.inf _) v = elim v [ ]

-- 0 and 1 are at most 1.
pub small_zero : Small 0 zero_f
unfolding of_bits
small_zero = record { bound = lit≤ tt }

pub small_one : Small 0 one_f
unfolding of_bits
small_one = record { bound = lit≤ tt }

-- ---- what a bound comes to
-- What is at most 2 ^ j is at most any larger 2 ^ k.
pub small_more : {j : ℕ} (k : ℕ) {x : Float} → Small j x → T (leb j k) → Small k x
small_more {j} k {x} p t = go x p.bound
  where
    go : (x : Float) → AtMost j x → Small k x
    go (fin s m e) a = record { bound = le_trans a (mul-le-mul_right (down e) (pow_mono (leb→le j k t))) }
    go lib.Ieee.nan a = elim a [ ]
    go (lib.Ieee.inf _) a = elim a [ ]

-- What has a bound is neither a NaN nor an infinity.
pub small_finite : {k : ℕ} {x : Float} → Small k x → T (finite x)
small_finite {k} {x} p = go x p.bound
  where
    go : (x : Float) → AtMost k x → T (finite x)
    go (fin s m e) a = tt
    go lib.Ieee.nan a = elim a [ ]
    go (lib.Ieee.inf _) a = elim a [ ]
