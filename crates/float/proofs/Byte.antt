-- A float cut to a byte. It is held between 0 and 255, which does not change its cut. Then 2 ^ 23 is added, where floats have no fractions, and taken away:
-- that leaves one of the two whole numbers around the value, and a test says which.
use mathlib.Core.Path.{◌≡◌, refl, sym, ap, ◌∙◌}
use mathlib.Core.Bool.{Bool, true, false, cond, true≢false}
use Prim.Native.Nat.{ℕ, zero, suc, ◌+◌, ◌-◌, ◌*◌, ◌/◌, ◌^◌, ◌≤◌, ◌<◌, min}
use native.Mathlib.Nat.{le_trans, le_of_eq, le_of_mul-le-mul_right, lt_of_mul-lt-mul_right, mul-lt-mul_of_pos_right, lt_of_le_of_lt, lt_of_lt_of_le, mul-le-mul_right, mul-le-mul_left, le-div_iff_mul-le, div-lt_iff_lt-mul, div-mul-le_self, mul_comm, mul_assoc, mul_right_comm, mul-sub, mul-one, zero-mul, mul-pos, pow-succ', div-one}
use native.Mathlib.Omega.{arith}
use borrow.Author.Tests.{ltb-true, ltb-false, le-ltb}
use lib.Dec.{T, le→leb}
use lib.IntN.{ℤ, pos, negsuc}
use lib.Pow.{pow_pos}
use lib.Ieee.{Float, nan, inf, fin, binary32, up, down, round, add, sub, sum, neg, lt, fits, of_int, of_bits, to_unsigned, in_unsigned, in_float}
use lib.Ieee.Back.{round_whole, unsigned_back}
use lib.Ieee.Casts.{to_unsigned-lt}
use lib.Ieee.Exact.{HasValue}
use lib.Ieee.Fits.{round-fits, down_pos}
use lib.Ieee.Order.{round_mono}
use lib.Ieee.Positive.{num, den, den_pos, positive, own_value, value→cross, positive_of_value, values_of_le, between}
use lib.Ieee.Scale.{round_same}
use Rattle.float.specs.Float.{zero_f, one_f, clamp_of}
use Rattle.float.specs.Bounds.{UpToByte, InByte}
use Rattle.float.proofs.Order.{signed}
use Rattle.float.proofs.Rounded.{held}

-- 255 and 2 ^ 23
abbrev pub top_f : Float
top_f = of_bits binary32 0x437f_0000

abbrev pub high_f : Float
high_f = of_bits binary32 0x4b00_0000

-- ---- between 0 and 255
-- y is a number with no minus sign, and its cut is x's.
abbrev pub Raised : Float → Float → Type 0
Raised x y = T (signed false y) × (to_unsigned 8 y ≡ to_unsigned 8 x)

-- What is above 0 is so itself, and 0 is so for all else, a NaN among it.
pub raised_above : (x : Float) → lt zero_f x ≡ true → Raised x x
unfolding lt of_bits
raised_above nan h = absurd (true≢false (sym h))
raised_above (inf true) h = absurd (true≢false (sym h))
raised_above (inf false) h = (tt, refl)
raised_above (fin true m e) h = absurd (true≢false (sym h))
raised_above (fin false m e) h = (tt, refl)

nothing : (m : ℕ) (e : ℤ) → m * up e ≤ 0 → to_unsigned 8 (fin false m e) ≡ 0
unfolding to_unsigned
nothing m e h =
    let l : m * up e / down e < 1 = (div-lt_iff_lt-mul (down_pos e)).1 (omega (arith, down_pos e)) in
    omega arith

pub raised_zero : (x : Float) → lt zero_f x ≡ false → Raised x zero_f
unfolding lt to_unsigned of_bits
raised_zero nan h = (tt, refl)
raised_zero (inf true) h = (tt, refl)
raised_zero (inf false) h = absurd (true≢false h)
raised_zero (fin true m e) h = (tt, refl)
raised_zero (fin false m e) h = (tt, sym (nothing m e (simp (zero-mul, mul-one) at (ltb-false (0 * 1 * down e) (m * up e * 1) h))))

below_zero : (x : Float) → lt x zero_f ≡ true → to_unsigned 8 x ≡ 0
unfolding lt to_unsigned of_bits
below_zero nan h = refl
below_zero (inf true) h = refl
below_zero (inf false) h = absurd (true≢false (sym h))
below_zero (fin true m e) h = refl
below_zero (fin false m e) h =
    let l : m * up e * 1 < 0 = simp zero-mul at (ltb-true (m * up e * 1) (0 * 1 * down e) h) in
    absurd (omega arith)

full : (m : ℕ) (e : ℤ) → 255 * down e ≤ m * up e → to_unsigned 8 (fin false m e) ≡ 255
unfolding to_unsigned
full m e h =
    let l : 255 ≤ m * up e / down e = (le-div_iff_mul-le (down_pos e)).1 h in
    omega arith

-- What is not below 255, and what is above it, is cut to 255.
pub not_below_top : (x : Float) → T (signed false x) → lt x top_f ≡ false → to_unsigned 8 x ≡ 255
unfolding lt to_unsigned of_bits
not_below_top (inf false) p h = refl
not_below_top (fin false m e) p h = full m e (omega (arith, ltb-false (m * up e * 1) (255 * 1 * down e) h))
not_below_top nan p h = elim p [ ]
not_below_top (inf true) p h = elim p [ ]
not_below_top (fin true m e) p h = elim p [ ]

above_top : (x : Float) → lt top_f x ≡ true → to_unsigned 8 x ≡ 255
unfolding lt to_unsigned of_bits
above_top nan h = absurd (true≢false (sym h))
above_top (inf true) h = absurd (true≢false (sym h))
above_top (inf false) h = refl
above_top (fin true m e) h = absurd (true≢false (sym h))
above_top (fin false m e) h = full m e (omega (arith, ltb-true (255 * 1 * down e) (m * up e * 1) h))

-- What is below 255 is held there.
pub below_top : (x : Float) → T (signed false x) → lt x top_f ≡ true → InByte x
unfolding lt of_bits
below_top (inf false) p h = absurd (true≢false (sym h))
below_top (fin false m e) p h = record { bound = omega (arith, ltb-true (m * up e * 1) (255 * 1 * down e) h) }
below_top nan p h = elim p [ ]
below_top (inf true) p h = elim p [ ]
below_top (fin true m e) p h = elim p [ ]

-- The cut stops at 0 and at 255 by itself, so a clamp to them before it changes nothing.
pub cut_of_clamp : (x : Float) → to_unsigned 8 (clamp_of x zero_f top_f) ≡ to_unsigned 8 x
unfolding clamp_of to_unsigned of_bits
cut_of_clamp x = go (lt x zero_f) (lt top_f x) (below_zero x) (above_top x)
  where
    go : (a b : Bool) → (a ≡ true → to_unsigned 8 x ≡ 0) → (b ≡ true → to_unsigned 8 x ≡ 255) → to_unsigned 8 (cond a zero_f (cond b top_f x)) ≡ to_unsigned 8 x
    go true b h k = sym (h refl)
    go false true h k = sym (k refl)
    go false false h k = refl

-- ---- the whole numbers around a value
-- A float from 2 ^ 23 on has no fraction.
no_fraction : (x : Float) → T (fits binary32 x) → T (positive x) → 8388608 * den x ≤ num x → HasValue x false (num x / den x) 1
no_fraction (fin false m (pos e)) t p h = (refl, ap (λ (k : ℕ). k * 1) (sym (div-one (m * 2 ^ e))))
no_fraction (fin false zero (negsuc e)) t p h = absurd p
no_fraction (fin false (suc m) (negsuc e)) t p h =
    let l : suc m < 16777216 = (held binary32 false m (negsuc e) t).0 in
    absurd (omega (arith, pow-succ' 2 e, pow_pos e, h))
no_fraction nan t p h = elim p [ ]
no_fraction (inf _) t p h = elim p [ ]
no_fraction (fin true m _) t p h = elim p [ ]

-- A fraction between two whole numbers from there on rounds to one of them.
to_either : (a c n : ℕ) → 0 < c → n * c ≤ a → a ≤ suc n * c → 8388608 ≤ n → n < 16777216
    → (q : ℕ) × HasValue (round binary32 false a c) false q 1 × (n ≤ q) × (q ≤ suc n)
to_either a c n C g h l u =
    let w = round binary32 false a c in
    let least = round_whole binary32 false n (omega arith) in
    let most = round_whole binary32 false (suc n) u in
    let P = positive_of_value (round binary32 false n 1) n 1 least (omega arith) in
    let Q = positive_of_value (round binary32 false (suc n) 1) (suc n) 1 most (omega arith) in
    let from = round_mono binary32 n 1 a c (pow_pos 0) C (le_trans g (le_of_eq (sym (mul-one a)))) in
    let to = round_mono binary32 a c (suc n) 1 C (pow_pos 0) (le_trans (le_of_eq (mul-one a)) h) in
    let p = between (round binary32 false n 1) w (round binary32 false (suc n) 1) P Q from to in
    let x = values_of_le (round binary32 false n 1) w n 1 (num w) (den w) P p least (own_value w p) from in
    let y = values_of_le w (round binary32 false (suc n) 1) (num w) (den w) (suc n) 1 p Q (own_value w p) most to in
    let v = no_fraction w (round-fits binary32 false a c) p (le_trans (mul-le-mul_right (den w) l) (le_trans x (le_of_eq (mul-one (num w))))) in
    let z = value→cross w (num w / den w) 1 v in (
      num w / den w,
      v,
      le_of_mul-le-mul_right (le_trans x (le_of_eq z)) (den_pos w),
      le_of_mul-le-mul_right (le_trans (le_of_eq (sym z)) y) (den_pos w),
    )

-- A difference of whole numbers is rounded once, as the whole number that it is.
whole_less : (x y : Float) (p q : ℕ) → HasValue x false p 1 → HasValue y false q 1 → q ≤ p → sub binary32 x y ≡ of_int binary32 (pos (p - q))
unfolding sub add neg sum of_int
whole_less (fin true m e) y p q v w h = absurd (true≢false v.0)
whole_less (fin false m e) (fin true n d) p q v w h = absurd (true≢false w.0)
whole_less (fin false m e) (fin false n d) p q v w h =
    let u = down e * down d in
    let s : m * up e * down d ≡ u * p = ap (λ (k : ℕ). k * down d) (sym (mul-one (m * up e)) ∙ v.1) ∙ mul_assoc p (down e) (down d) ∙ mul_comm p u in
    let t : n * up d * down e ≡ u * q =
    ap (λ (k : ℕ). k * down e) (sym (mul-one (n * up d)) ∙ w.1) ∙ mul_right_comm q (down d) (down e) ∙ mul_assoc q (down e) (down d) ∙ mul_comm q u in
    rw (s, t, le-ltb (u * p) (u * q) (mul-le-mul_left u h))
    (round_same binary32 false (u * p - u * q) u (p - q) 1 (mul-pos (down_pos e) (down_pos d)) (pow_pos 0) (mul-one (u * p - u * q) ∙ sym (mul-sub u p q) ∙ mul_comm u (p - q)))
whole_less nan y p q v w h = elim v [ ]
whole_less (inf _) y p q v w h = elim v [ ]
whole_less (fin false m e) nan p q v w h = elim w [ ]
whole_less (fin false m e) (inf _) p q v w h = elim w [ ]

-- ---- which of them it is
-- The cut and the next number are around the value.
around : (m : ℕ) (e : ℤ) → UpToByte (fin false m e) → (to_unsigned 8 (fin false m e) * down e ≤ m * up e) × (m * up e < suc (to_unsigned 8 (fin false m e)) * down e)
unfolding to_unsigned
around m e h =
    let k = m * up e / down e in
    let l : k < 256 = (div-lt_iff_lt-mul (down_pos e)).1 (omega (arith, h, down_pos e)) in
    let same : min k 255 ≡ k = omega arith in
    rw same (div-mul-le_self (m * up e) (down e), (div-lt_iff_lt-mul (down_pos e)).0 (omega arith))

-- 2 ^ 23 more, and the same less, leaves the cut or the next number.
abbrev pub near_f : Float → Float
near_f x = sub binary32 (add binary32 x high_f) high_f

near : (x : Float) → InByte x → (j : ℕ) × (near_f x ≡ of_int binary32 (pos j)) × (to_unsigned 8 x ≤ j) × (j ≤ suc (to_unsigned 8 x))
unfolding add sum of_bits
near x b =
    let r = go x b.bound in (
      r.0 - 8388608,
      whole_less (add binary32 x high_f) high_f r.0 8388608 r.1 (refl, refl) (omega (arith, r.2)),
      omega (arith, r.2),
      omega (arith, r.3),
    )
  where
    go : (x : Float) → UpToByte x → (q : ℕ) × HasValue (add binary32 x high_f) false q 1 × (8388608 + to_unsigned 8 x ≤ q) × (q ≤ suc (8388608 + to_unsigned 8 x))
    go (fin false m e) b =
        let g = around m e b in
        to_either (m * up e * 1 + 8388608 * down e) (down e * 1) (8388608 + to_unsigned 8 (fin false m e)) (mul-pos (down_pos e) (pow_pos 0)) (omega (arith, g.0)) (omega (arith, g.1))
        (omega arith) (omega (arith, to_unsigned-lt 8 (fin false m e)))
    go nan b = elim b [ ]
    go (inf _) b = elim b [ ]
    go (fin true m e) b = elim b [ ]

-- A value is below a whole number exactly where its cut is.
below_whole : (x y : Float) (j : ℕ) → InByte x → HasValue y false j 1 → (lt x y ≡ true → to_unsigned 8 x < j) × (lt x y ≡ false → j < suc (to_unsigned 8 x))
unfolding lt
below_whole x y j b v = go x y b.bound v
  where
    go : (x y : Float) → UpToByte x → HasValue y false j 1 → (lt x y ≡ true → to_unsigned 8 x < j) × (lt x y ≡ false → j < suc (to_unsigned 8 x))
    go (fin false m e) (fin true n d) b v = absurd (true≢false v.0)
    go (fin false m e) (fin false n d) b v =
        let g = around m e b in
        let w : n * up d * down e ≡ j * down e * down d = ap (λ (k : ℕ). k * down e) (sym (mul-one (n * up d)) ∙ v.1) ∙ mul_right_comm j (down d) (down e) in (
          λ h. lt_of_mul-lt-mul_right (down e) (lt_of_mul-lt-mul_right (down d)
              (lt_of_le_of_lt (mul-le-mul_right (down d) g.0) (lt_of_lt_of_le (ltb-true (m * up e * down d) (n * up d * down e) h) (le_of_eq w)))),
          λ h. lt_of_mul-lt-mul_right (down e) (lt_of_mul-lt-mul_right (down d)
              (lt_of_le_of_lt (le_trans (le_of_eq (sym w)) (ltb-false (m * up e * down d) (n * up d * down e) h)) (mul-lt-mul_of_pos_right g.1 (down_pos d)))),
        )
    go nan _ b v = elim b [ ]
    go (inf _) _ b v = elim b [ ]
    go (fin false m e) nan b v = elim v [ ]
    go (fin false m e) (inf _) b v = elim v [ ]
    go (fin true m e) _ b v = elim b [ ]

-- Where what is left is above the value it is the next number, and 1 less is the cut.
pub whole_above : (x : Float) → InByte x → lt x (near_f x) ≡ true → sub binary32 (near_f x) one_f ≡ of_int binary32 (pos (to_unsigned 8 x))
unfolding of_int of_bits
whole_above x b h =
    let r = near x b in
    let j = r.0 in
    let v = round_whole binary32 false j (omega (arith, r.3, to_unsigned-lt 8 x)) in
    let l : to_unsigned 8 x < j = (below_whole x (of_int binary32 (pos j)) j b v).0 (rw r.1 at h) in
    let same : j - 1 ≡ to_unsigned 8 x = omega (arith, r.3) in
    rw r.1 (whole_less (of_int binary32 (pos j)) one_f j 1 v (refl, refl) (omega arith) ∙ ap (λ (k : ℕ). of_int binary32 (pos k)) same)

-- Elsewhere it is the cut.
pub whole_not_above : (x : Float) → InByte x → lt x (near_f x) ≡ false → near_f x ≡ of_int binary32 (pos (to_unsigned 8 x))
unfolding of_int
whole_not_above x b h =
    let r = near x b in
    let j = r.0 in
    let v = round_whole binary32 false j (omega (arith, r.3, to_unsigned-lt 8 x)) in
    let l : j < suc (to_unsigned 8 x) = (below_whole x (of_int binary32 (pos j)) j b v).1 (rw r.1 at h) in
    let same : j ≡ to_unsigned 8 x = omega (arith, r.2) in
    r.1 ∙ ap (λ (k : ℕ). of_int binary32 (pos k)) same

-- ---- the cast
-- The cut as a float is cast without loss, and back to itself.
pub cast_back : (x : Float) → T (in_unsigned binary32 8 (of_int binary32 (pos (to_unsigned 8 x)))) × (to_unsigned 8 (of_int binary32 (pos (to_unsigned 8 x))) ≡ to_unsigned 8 x)
unfolding in_float
cast_back x = unsigned_back binary32 8 (to_unsigned 8 x) (le→leb (to_unsigned 8 x) 16777216 (omega (arith, to_unsigned-lt 8 x))) (to_unsigned-lt 8 x)
