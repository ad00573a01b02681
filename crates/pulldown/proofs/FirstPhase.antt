-- The first phase that passes a test: how the code finds it, and what it says of the test.
use Prim.Native.Nat.{ℕ, zero, suc, ◌+◌, ◌<◌, ◌≤◌}
use native.Mathlib.Numerals.{add-one}
use native.Mathlib.Omega.{arith}
use borrow.Author.Count.{below_none, below_more}
use mathlib.Core.Path.{◌≡◌, refl}
use mathlib.Core.Logic.{◌⊎◌, inl, inr, ⊎_elim}
use mathlib.Core.Bool.{Bool, true, false}
use Rattle.pulldown.specs.Runs.{first_phase}
use Rattle.laws.proofs.Bools.{clash}

module _ (passes : ℕ → Bool) where
  -- none below p passes
  abbrev pub NoneBelow : ℕ → Type 0
  NoneBelow p = (q : ℕ) → q < p → passes q ≡ false

  pub first_here : (p : ℕ) → p < 5 → NoneBelow p → passes p ≡ true → first_phase passes ≡ p
  unfolding first_phase
  first_here zero h none here = rw here
  first_here (suc zero) h none here = rw (none 0 (omega arith), here)
  first_here (suc (suc zero)) h none here = rw (none 0 (omega arith), none 1 (omega arith), here)
  first_here (suc (suc (suc zero))) h none here = rw (none 0 (omega arith), none 1 (omega arith), none 2 (omega arith), here)
  first_here (suc (suc (suc (suc zero)))) h none here =
      rw (none 0 (omega arith), none 1 (omega arith), none 2 (omega arith), none 3 (omega arith), here)
  first_here (suc (suc (suc (suc (suc p))))) h none here = absurd (omega arith)

  pub first_none : (p : ℕ) → 5 ≤ p → NoneBelow p → first_phase passes ≡ 5
  unfolding first_phase
  first_none p h none = rw (none 0 (omega arith), none 1 (omega arith), none 2 (omega arith), none 3 (omega arith), none 4 (omega arith))

  -- a first number below n that passes, or none
  First : ℕ → Type 0
  First n = ((p : ℕ) × (p < n) × NoneBelow p × (passes p ≡ true)) ⊎ NoneBelow n

  one_more : (n : ℕ) (b : Bool) → passes n ≡ b → First n → First (n + 1)
  unfolding First
  one_more n b e (inl f) = inl (f.0, omega arith, f.2, f.3)
  one_more n true e (inr none) = inl (n, omega arith, none, e)
  one_more n false e (inr none) = inr (below_more (λ q. passes q ≡ false) n none e)

  first_or_none : (n : ℕ) → First n
  unfolding First
  first_or_none zero = inr (below_none (λ q. passes q ≡ false))
  first_or_none (suc n) = rw (← add-one n) (one_more n (passes n) refl (first_or_none n))

  pub found : ((first_phase passes < 5) × (passes (first_phase passes) ≡ true)) ⊎ ((first_phase passes ≡ 5) × NoneBelow 5)
  unfolding First
  found =
      ⊎_elim (λ f. inl (here f.0 f.1 f.3 (first_here f.0 f.1 f.2 f.3)))
      (λ none. inr (first_none 5 (omega arith) none, none))
      (first_or_none 5)
    where
      here : (p : ℕ) → p < 5 → passes p ≡ true → first_phase passes ≡ p → (first_phase passes < 5) × (passes (first_phase passes) ≡ true)
      here p h t e = rw e (h, t)

  -- the phase that alone passes is the first
  pub first_is : (p : ℕ) → p < 5 → passes p ≡ true → ((q : ℕ) → q < 5 → passes q ≡ true → q ≡ p) → first_phase passes ≡ p
  first_is p h t one =
      ⊎_elim (λ f. one (first_phase passes) f.0 f.1) (λ none. clash t (none.1 p h)) found
