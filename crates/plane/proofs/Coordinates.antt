-- What the bias means: a held coordinate is the signed one, clamped into the plane it is clamped alike, its parity is the Euclidean
-- remainder of the signed one, and an offset added to it is added to the signed one.
use mathlib.Core.Path.{◌≡◌, refl, sym, ap, ◌∙◌}
use mathlib.Core.Bool.{Bool, true, false, true≢false}
use Prim.Native.Nat.{ℕ, zero, suc, ◌+◌, ◌-◌, ◌/◌, ◌%◌, ◌<◌, ◌≤◌, min, zero-le}
use native.Mathlib.Omega.{arith}
use borrow.Author.Tests.{ltb-true, ltb-false, leb-true, lt-ltb, le-ltb}
use lib.Dec.{T, ltb, leb}
use lib.IntN.{ℤ, pos, negsuc, nat_abs, neg_ℤ, ◌+ℤ◌}
use lib.Signed.{mag, non_neg, quot_z, rem_z}
use Rattle.laws.proofs.Bools.{and_left, and_right}
use Rattle.plane.specs.Coordinates.{in_reach, inside, held, parity_of, bias_of, unbiased}

-- ---- a held coordinate by whether it is negative
pub unbiased_below : (c : ℕ) → c < 65544 → unbiased c ≡ negsuc (65544 - suc c)
unbiased_below c h = simp (lt-ltb c 65544 h)

pub unbiased_from : (c : ℕ) → 65544 ≤ c → unbiased c ≡ pos (c - 65544)
unbiased_from c h = simp (le-ltb c 65544 h)

-- ---- clamped into the plane
pub held_is : (size c : ℕ) → held size (unbiased c) ≡ min (c - 65544) (size - 1)
held_is size c = go (ltb c 65544) refl
  where
    go : (b : Bool) → ltb c 65544 ≡ b → held size (unbiased c) ≡ min (c - 65544) (size - 1)
    go true h = rw (unbiased_below c (ltb-true c 65544 h)) (omega (arith, ltb-true c 65544 h))
    go false h = rw (unbiased_from c (ltb-false c 65544 h)) refl

-- ---- a coordinate within reach
pub record Reached (x : ℤ) (c : ℕ) : Type 0 where
  pub sum : x +ℤ pos 65544 ≡ pos c
  pub low : 8 ≤ c
  pub high : c ≤ 131080

pub reached : (x : ℤ) → in_reach x ≡ true → Reached x (bias_of x)
reached (pos n) h =
    let m : n ≤ 65536 = leb-true n 65536 h in
    rw h record { sum = refl; low = omega arith; high = omega arith }
reached (negsuc n) h =
    let m : n ≤ 65535 = leb-true n 65535 (and_left (leb n 65535) true h) in
    let e : negsuc n +ℤ pos 65544 ≡ pos (65544 - suc n) = simp (le-ltb 65544 (suc n) (omega arith)) in
    rw (h, e) record { sum = e; low = omega arith; high = omega arith }

-- the held coordinate is the signed one
pub unbiased_bias : (x : ℤ) → in_reach x ≡ true → unbiased (bias_of x) ≡ x
unbiased_bias (pos n) h = rw (h, unbiased_from (n + 65544) (omega arith)) (ap pos (back n))
  where
    back : (n : ℕ) → n + 65544 - 65544 ≡ n
    back n = omega arith
unbiased_bias (negsuc n) h =
    let m : n ≤ 65535 = leb-true n 65535 (and_left (leb n 65535) true h) in
    let e : negsuc n +ℤ pos 65544 ≡ pos (65544 - suc n) = simp (le-ltb 65544 (suc n) (omega arith)) in
    rw (h, e, unbiased_below (65544 - suc n) (omega arith)) (ap negsuc (back n m))
  where
    back : (n : ℕ) → n ≤ 65535 → 65544 - suc (65544 - suc n) ≡ n
    back n m = omega arith

-- ---- parity: the bias is even
pub parity_unbiased : (c : ℕ) → parity_of (unbiased c) ≡ c % 2
parity_unbiased c = go (ltb c 65544) refl
  where
    below : (c : ℕ) → c < 65544 → suc (65544 - suc c) % 2 ≡ c % 2
    below c h = omega arith

    from : (c : ℕ) → 65544 ≤ c → (c - 65544) % 2 ≡ c % 2
    from c h = omega arith

    go : (b : Bool) → ltb c 65544 ≡ b → parity_of (unbiased c) ≡ c % 2
    go true h = rw (unbiased_below c (ltb-true c 65544 h)) (below c (ltb-true c 65544 h))
    go false h = rw (unbiased_from c (ltb-false c 65544 h)) (from c (ltb-false c 65544 h))

-- ---- a coordinate inside the plane
pub inside_nonneg : (size : ℕ) (x : ℤ) → inside size x ≡ true → T (non_neg x)
inside_nonneg size (pos n) h = tt
inside_nonneg size (negsuc n) h = absurd (true≢false (sym h))

pub inside_below : (size : ℕ) (x : ℤ) → inside size x ≡ true → nat_abs x < size
inside_below size (pos n) h = ltb-true n size (and_right (leb 0 n) (ltb n size) h)
inside_below size (negsuc n) h = absurd (true≢false (sym h))

-- ---- the parity by a remainder that has the dividend's sign
negated : (k : ℕ) → nat_abs (neg_ℤ (pos k)) ≡ k
negated zero = refl
negated (suc k) = refl

pub even_parity : (y : ℤ) → rem_z y (pos 2) ≡ pos 0 → 0 ≡ parity_of y
even_parity (pos n) h = sym (ap nat_abs h)
even_parity (negsuc n) h = sym (ap nat_abs h) ∙ negated (suc n % 2)

remainder : (n : ℕ) → (n % 2 ≡ 0 → ⊥) → 1 ≡ n % 2
remainder n h = omega arith

pub odd_parity : (y : ℤ) → (rem_z y (pos 2) ≡ pos 0 → ⊥) → 1 ≡ parity_of y
odd_parity (pos n) h = remainder n (λ e. h (ap pos e))
odd_parity (negsuc n) h = remainder (suc n) (λ e. h (ap (λ (k : ℕ). neg_ℤ (pos k)) e))

-- halves are no larger
halved : (k a : ℕ) → k ≤ suc a → mag (neg_ℤ (pos k)) ≤ a
halved zero a h = zero-le
halved (suc k) a h = omega arith

pub half_size : (y : ℤ) → mag (quot_z y (pos 2)) ≤ mag y
half_size (pos n) = omega arith
half_size (negsuc n) = halved (suc n / 2) n (omega arith)
