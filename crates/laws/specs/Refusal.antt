-- The number that a call gives back (docs/RULES.md, "What the desk gets back"): 0 for done, and of several that apply the lowest.
-- A call lists its tests, each under the number that it guards, in rising order. A test is true where its number does not apply.
-- What `lowest` says of such a list is the record `Says`, and every list in rising order has it (Claims).
use Rattle.std.specs.Prelude.{ℕ, ◌≤◌, ◌<◌, ◌≡◌, ◌⊎◌, ◌↔◌, Bool, true, false, cond, ◌&&◌, List, [], ◌∷◌, leb, eqb}

-- the number of the first test that fails, and 0 where none does
unfoldable pub lowest : List (ℕ × Bool) → ℕ
lowest [] = 0
lowest ((n, passes) ∷ tests) = cond passes (lowest tests) n

-- What is handed back beside the number: the value where the number is 0, and none at a refusal.
abbrev pub when_done : {A : Type 0} → ℕ → A → List A
when_done n x = cond (eqb n 0) (x ∷ []) []

-- What a lent place holds after the call: what was written where the number is 0, and at a refusal what stood there.
abbrev pub written : {A : Type 0} → ℕ → A → A → A
written n new old = cond (eqb n 0) new old

-- the numbers are n or more, and none is lower than the one before it
unfoldable pub rising : ℕ → List (ℕ × Bool) → Bool
rising n [] = true
rising n ((m, passes) ∷ tests) = leb n m && rising m tests

-- the number n applies: a test of that number fails
unfoldable pub Applies : ℕ → List (ℕ × Bool) → Type 0
Applies n [] = ⊥
Applies n ((m, passes) ∷ tests) = ((m ≡ n) × (passes ≡ false)) ⊎ Applies n tests

-- n applies, and no lower number does
pub record Lowest (n : ℕ) (tests : List (ℕ × Bool)) : Type 0 where
  pub applies : Applies n tests
  pub no_lower : (m : ℕ) → Applies m tests → n ≤ m

-- 0 exactly when no number applies; n exactly when n applies and no lower number does
pub record Says (tests : List (ℕ × Bool)) : Type 0 where
  pub done : (lowest tests ≡ 0) ↔ ((n : ℕ) → Applies n tests → ⊥)
  pub refused : (n : ℕ) → 0 < n → (lowest tests ≡ n) ↔ Lowest n tests
