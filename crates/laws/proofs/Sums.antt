-- Laws of sums. A loop that adds f 0, f 1, .. keeps `Summed`: `starts` enters it, `adds` is a turn, `ends` leaves it.
use Prim.Native.Nat.{ℕ, zero, suc, ◌+◌, ◌*◌, ◌≤◌, ◌<◌}
use mathlib.Core.Path.{◌≡◌, refl, sym, ap, ap₂, ◌∙◌}
use native.Mathlib.Nat.{add-zero, add-suc, add_assoc, zero-mul, mul-suc, suc-mul, le_antisymm}
use native.Mathlib.Numerals.{add-one}
use native.Mathlib.Omega.{arith}
use Rattle.laws.specs.Sums.{sum_over}

-- two sums are equal by their terms
pub same_terms : (n : ℕ) (f g : ℕ → ℕ) → ((k : ℕ) → k < n → f k ≡ g k) → sum_over n f ≡ sum_over n g
unfolding sum_over
same_terms zero f g h = refl
same_terms (suc n) f g h = ap₂ (λ (a b : ℕ). a + b) (same_terms n f g (λ k l. h k (omega arith))) (h n (omega arith))

-- one term more
pub one_more : (n : ℕ) (f : ℕ → ℕ) → sum_over (n + 1) f ≡ sum_over n f + f n
unfolding sum_over
one_more n f = rw add-one

-- n terms after the first m
pub sum_parts : (m n : ℕ) (f : ℕ → ℕ) → sum_over (m + n) f ≡ sum_over m f + sum_over n (λ k. f (m + k))
unfolding sum_over
sum_parts m zero f = ap (λ (k : ℕ). sum_over k f) (add-zero m) ∙ sym (add-zero (sum_over m f))
sum_parts m (suc n) f =
    ap (λ (k : ℕ). sum_over k f) (add-suc m n)
    ∙ ap (λ (front : ℕ). front + f (m + n)) (sum_parts m n f)
    ∙ add_assoc (sum_over m f) (sum_over n (λ k. f (m + k))) (f (m + n))

-- the sum of two terms a place
pub sum_of_both : (n : ℕ) (f g : ℕ → ℕ) → sum_over n (λ k. f k + g k) ≡ sum_over n f + sum_over n g
unfolding sum_over
sum_of_both zero f g = refl
sum_of_both (suc n) f g = omega (arith, sum_of_both n f g)

-- ---- bounds
-- a sum of terms none of which is above `most`
pub sum_at_most : (n most : ℕ) (f : ℕ → ℕ) → ((k : ℕ) → k < n → f k ≤ most) → sum_over n f ≤ n * most
unfolding sum_over
sum_at_most zero most f h = omega arith
sum_at_most (suc n) most f h = rw suc-mul (omega (arith, sum_at_most n most f (λ k l. h k (omega arith)), h n (omega arith)))

pub sum_of_zeros : (n : ℕ) (f : ℕ → ℕ) → ((k : ℕ) → k < n → f k ≡ 0) → sum_over n f ≡ 0
sum_of_zeros n f h = omega (arith, sum_at_most n 0 f (λ k l. omega (arith, h k l)))

-- ---- sums of sums
-- row after row, or column after column
pub sums_swap : (m n : ℕ) (f : ℕ → ℕ → ℕ) → sum_over m (λ i. sum_over n (f i)) ≡ sum_over n (λ j. sum_over m (λ i. f i j))
unfolding sum_over
sums_swap zero n f = sym (sum_of_zeros n _ (λ k l. refl))
sums_swap (suc m) n f =
    ap (λ (rows : ℕ). rows + sum_over n (f m)) (sums_swap m n f) ∙ sym (sum_of_both n (λ j. sum_over m (λ i. f i j)) (f m))

-- n terms at a time
pub sum_groups : (m n : ℕ) (f : ℕ → ℕ) → sum_over m (λ t. sum_over n (λ i. f (t * n + i))) ≡ sum_over (m * n) f
unfolding sum_over
sum_groups zero n f = ap (λ (k : ℕ). sum_over k f) (sym (zero-mul n))
sum_groups (suc m) n f =
    ap (λ (front : ℕ). front + sum_over n (λ i. f (m * n + i))) (sum_groups m n f)
    ∙ sym (sum_parts (m * n) n f)
    ∙ ap (λ (k : ℕ). sum_over k f) (sym (suc-mul m n))

-- ---- a total after k of n terms, none above `most`
pub record Summed (most : ℕ) (f : ℕ → ℕ) (n total k : ℕ) : Type 0 where
  pub within : k ≤ n
  pub small : total ≤ most * k
  pub exact : total ≡ sum_over k f

pub starts : (most : ℕ) (f : ℕ → ℕ) (n : ℕ) → Summed most f n 0 0
unfolding sum_over
starts most f n = record { within = omega arith; small = omega arith; exact = refl }

pub adds : {most : ℕ} {f : ℕ → ℕ} {n total k term : ℕ} → Summed most f n total k → k < n → term ≤ most → term ≡ f k → Summed most f n (total + term) (k + 1)
adds {most} {f} {n} {total} {k} {term} s l m e = record {
  within = omega arith;
  small = rw (add-one, mul-suc) (omega arith);
  exact = ap₂ (λ (a b : ℕ). a + b) s.exact e ∙ sym (one_more k f);
}

pub ends : {most : ℕ} {f : ℕ → ℕ} {n total k : ℕ} → Summed most f n total k → n ≤ k → total ≡ sum_over n f
ends {most} {f} {n} {total} {k} s l = s.exact ∙ ap (λ (j : ℕ). sum_over j f) (le_antisymm s.within l)
