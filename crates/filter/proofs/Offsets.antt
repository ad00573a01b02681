-- Differences of natural numbers, and by them what an offset to a held coordinate is to the signed one. A held number is a difference:
-- a coordinate c is c - 65,544, a slant j is j - 2.
use mathlib.Core.Path.{◌≡◌, refl, sym, ap, ◌∙◌}
use mathlib.Core.Bool.{Bool, true, false, cond}
use Prim.Native.Nat.{ℕ, zero, suc, ◌+◌, ◌-◌, ◌*◌, ◌≤◌, ◌<◌}
use native.Mathlib.Omega.{arith}
use borrow.Author.Tests.{ltb-true, ltb-false, lt-ltb, le-ltb}
use lib.Dec.{ltb}
use lib.IntN.{ℤ, pos, negsuc, sub_ℕ, nat_abs, neg_ℤ, ◌+ℤ◌, ◌-ℤ◌, ◌*ℤ◌, +ℤ_idl, +ℤ-neg_ℤ_cancel, suc_ℤ-*ℤ, zero-*ℤ}
use Rattle.plane.specs.Coordinates.{unbiased}
use Rattle.filter.specs.Filter.{three}
use Rattle.filter.specs.Held.{step}

-- ---- differences
-- Two differences are the same where the sums crosswise are.
pub same_difference : (a b c d : ℕ) → a + d ≡ c + b → sub_ℕ a b ≡ sub_ℕ c d
same_difference a b c d e = go (ltb a b) refl (ltb c d) refl
  where
    go : (p : Bool) → ltb a b ≡ p → (q : Bool) → ltb c d ≡ q → cond p (negsuc (b - suc a)) (pos (a - b)) ≡ cond q (negsuc (d - suc c)) (pos (c - d))
    go true h true k = let l : b - suc a ≡ d - suc c = omega (arith, ltb-true a b h, ltb-true c d k) in ap negsuc l
    go true h false k = absurd (omega (arith, ltb-true a b h, ltb-false c d k))
    go false h true k = absurd (omega (arith, ltb-false a b h, ltb-true c d k))
    go false h false k = let l : a - b ≡ c - d = omega (arith, ltb-false a b h, ltb-false c d k) in ap pos l

-- The sum of two differences.
pub add_differences : (a b c d : ℕ) → sub_ℕ a b +ℤ sub_ℕ c d ≡ sub_ℕ (a + c) (b + d)
add_differences a b c d = go (ltb a b) refl (ltb c d) refl
  where
    go :
        (p : Bool) →
        ltb a b ≡ p →
        (q : Bool) →
        ltb c d ≡ q →
        cond p (negsuc (b - suc a)) (pos (a - b)) +ℤ cond q (negsuc (d - suc c)) (pos (c - d)) ≡ sub_ℕ (a + c) (b + d)
    go true h true k =
        let l : a + c < b + d = omega (arith, ltb-true a b h, ltb-true c d k) in
        let m : suc (b - suc a + (d - suc c)) ≡ b + d - suc (a + c) = omega (arith, ltb-true a b h, ltb-true c d k) in
        rw (lt-ltb (a + c) (b + d) l) (ap negsuc m)
    go true h false k = same_difference (c - d) (suc (b - suc a)) (a + c) (b + d) (omega (arith, ltb-true a b h, ltb-false c d k))
    go false h true k = same_difference (a - b) (suc (d - suc c)) (a + c) (b + d) (omega (arith, ltb-false a b h, ltb-true c d k))
    go false h false k =
        let l : b + d ≤ a + c = omega (arith, ltb-false a b h, ltb-false c d k) in
        let m : a - b + (c - d) ≡ a + c - (b + d) = omega (arith, ltb-false a b h, ltb-false c d k) in
        rw (le-ltb (a + c) (b + d) l) (ap pos m)

-- A natural number is a difference, and so is its negative.
difference_zero : (a : ℕ) → sub_ℕ a 0 ≡ pos a
difference_zero a = rw (le-ltb a 0 (omega arith)) (ap pos (less a))
  where
    less : (a : ℕ) → a - 0 ≡ a
    less a = omega arith

zero_difference : (a : ℕ) → sub_ℕ 0 a ≡ neg_ℤ (pos a)
zero_difference zero = refl
zero_difference (suc a) = rw (lt-ltb 0 (suc a) (omega arith)) (ap negsuc (less a))
  where
    less : (a : ℕ) → suc a - 1 ≡ a
    less a = omega arith

-- The negative of a difference is the difference turned round.
pub neg_difference : (a b : ℕ) → neg_ℤ (sub_ℕ a b) ≡ sub_ℕ b a
neg_difference a b = go (ltb a b) refl
  where
    go : (p : Bool) → ltb a b ≡ p → neg_ℤ (cond p (negsuc (b - suc a)) (pos (a - b))) ≡ sub_ℕ b a
    go true h = sym (difference_zero (suc (b - suc a))) ∙ same_difference (suc (b - suc a)) 0 b a (omega (arith, ltb-true a b h))
    go false h = sym (zero_difference (a - b)) ∙ same_difference 0 (a - b) b a (omega (arith, ltb-false a b h))

-- ---- coordinates
-- An offset to a held coordinate is that offset to the signed one: up and then down,
moved : (c up down : ℕ) → down ≤ c + up → unbiased (c + up - down) ≡ unbiased c +ℤ sub_ℕ up down
moved c up down h = same_difference (c + up - down) 65544 (c + up) (65544 + down) (omega arith) ∙ sym (add_differences c 65544 up down)

-- up alone,
pub unbiased_more : (c k : ℕ) → unbiased (c + k) ≡ unbiased c +ℤ pos k
unbiased_more c k =
    same_difference (c + k) 65544 (c + k) (65544 + 0) (omega arith) ∙ sym (add_differences c 65544 k 0) ∙ ap (λ (z : ℤ). unbiased c +ℤ z) (difference_zero k)

-- and down alone.
pub unbiased_less : (c k : ℕ) → k ≤ c → unbiased (c - k) ≡ unbiased c -ℤ pos k
unbiased_less c k h =
    sym (+ℤ-neg_ℤ_cancel (unbiased (c - k)) (pos k)) ∙ ap (λ (z : ℤ). z -ℤ pos k) (sym (unbiased_more (c - k) k) ∙ ap unbiased (back c k h))
  where
    back : (c k : ℕ) → k ≤ c → c - k + k ≡ c
    back c k h = omega arith

-- ---- the columns that a slant names, j and k held: x + k + j and x + k - j,
pub across_above : (x k j : ℕ) → 4 ≤ x + k + j → unbiased (x + k + j - 4) ≡ unbiased x +ℤ (step k +ℤ step j)
across_above x k j h =
    same_difference (x + k + j - 4) 65544 (x + (k + j)) (65544 + 4) (omega arith) ∙ sym (add_differences x 65544 (k + j) 4)
    ∙ ap (λ (z : ℤ). unbiased x +ℤ z) (sym (add_differences k 2 j 2))

pub across_below : (x k j : ℕ) → j ≤ x + k → unbiased (x + k - j) ≡ unbiased x +ℤ (step k -ℤ step j)
across_below x k j h =
    moved x k j h
    ∙ ap (λ (z : ℤ). unbiased x +ℤ z)
    (sym (ap (λ (z : ℤ). step k +ℤ z) (neg_difference j 2) ∙ add_differences k 2 2 j ∙ same_difference (k + 2) (2 + j) k j (omega arith)))

-- x + j and x - j,
pub near_above : (x j : ℕ) → 2 ≤ x + j → unbiased (x + j - 2) ≡ unbiased x +ℤ step j
near_above x j h = moved x j 2 h

pub near_below : (x j : ℕ) → j ≤ x + 2 → unbiased (x + 2 - j) ≡ unbiased x -ℤ step j
near_below x j h = moved x 2 j h ∙ ap (λ (z : ℤ). unbiased x +ℤ z) (sym (neg_difference j 2))

-- x + 3j and x - 3j
thrice : (z : ℤ) → three *ℤ z ≡ z +ℤ z +ℤ z
thrice z = suc_ℤ-*ℤ (pos 2) z ∙ ap (λ (w : ℤ). w +ℤ z) (suc_ℤ-*ℤ (pos 1) z ∙ ap (λ (w : ℤ). w +ℤ z) (suc_ℤ-*ℤ (pos 0) z ∙ ap (λ (w : ℤ). w +ℤ z) (zero-*ℤ z) ∙ +ℤ_idl z))

three_steps : (j : ℕ) → three *ℤ step j ≡ sub_ℕ (3 * j) 6
three_steps j =
    thrice (step j) ∙ ap (λ (z : ℤ). z +ℤ step j) (add_differences j 2 j 2) ∙ add_differences (j + j) 4 j 2
    ∙ same_difference (j + j + j) 6 (3 * j) 6 (omega arith)

pub far_above : (x j : ℕ) → 6 ≤ x + 3 * j → unbiased (x + 3 * j - 6) ≡ unbiased x +ℤ three *ℤ step j
far_above x j h = moved x (3 * j) 6 h ∙ ap (λ (z : ℤ). unbiased x +ℤ z) (sym (three_steps j))

pub far_below : (x j : ℕ) → 3 * j ≤ x + 6 → unbiased (x + 6 - 3 * j) ≡ unbiased x -ℤ three *ℤ step j
far_below x j h = moved x 6 (3 * j) h ∙ ap (λ (z : ℤ). unbiased x +ℤ z) (sym (ap neg_ℤ (three_steps j) ∙ neg_difference (3 * j) 6))

-- ---- the size of a slant
pub step_away : (j : ℕ) → j - 2 + (2 - j) ≡ nat_abs (step j)
step_away j = go (ltb j 2) refl
  where
    go : (p : Bool) → ltb j 2 ≡ p → j - 2 + (2 - j) ≡ nat_abs (step j)
    go true h = rw h (omega (arith, ltb-true j 2 h))
    go false h = rw h (omega (arith, ltb-false j 2 h))

-- A held slant of at most 2 either way is at most 4.
pub step_within : (j : ℕ) → nat_abs (step j) ≤ 2 → j ≤ 4
step_within j h = omega (arith, step_away j)
