-- Laws of the lowest refusal. The list is walked once (`judge`): either no number applies and the answer is 0, or the answer applies
-- and no lower number does. `Says` is that in both directions.
use Prim.Native.Nat.{ℕ, ◌≤◌, ◌<◌}
use mathlib.Core.Path.{◌≡◌, refl, sym, ap, subst, ◌∙◌}
use mathlib.Core.Logic.{◌⊎◌, inl, inr}
use mathlib.Core.Bool.{Bool, true, false, cond, ◌&&◌, true≢false}
use mathlib.Core.List.{List, [], ◌∷◌, ◌++◌, nil≢cons}
use native.Mathlib.Nat.{le_trans, le_antisymm, le_of_eq}
use native.Mathlib.Omega.{arith}
use lib.Dec.{T, leb, eqb, leb→le, lit<}
use borrow.Author.Tests.{eqb-true, ne_eqb}
use Rattle.laws.specs.Refusal.{lowest, when_done, written, rising, Applies, Lowest, Says}

-- ---- both halves of a conjunction that holds
left : (a b : Bool) → T (a && b) → T a
left true b t = tt
left false b t = t

right : (a b : Bool) → T (a && b) → T b
right true b t = t
right false b t = absurd t

-- ---- numbers that rise: what applies is no lower than the first
module _ (n m : ℕ) (tests : List (ℕ × Bool)) (r : T (leb n m && rising m tests)) where
  step_up : n ≤ m
  step_up = leb→le n m (left (leb n m) (rising m tests) r)

  rest_rises : T (rising m tests)
  rest_rises = right (leb n m) (rising m tests) r

not_below : (n : ℕ) (tests : List (ℕ × Bool)) → T (rising n tests) → (k : ℕ) → Applies k tests → n ≤ k
unfolding rising Applies
not_below n [] r k f = absurd f
not_below n ((m, passes) ∷ tests) r k (inl f) = le_trans (step_up n m tests r) (le_of_eq f.0)
not_below n ((m, passes) ∷ tests) r k (inr f) = le_trans (step_up n m tests r) (not_below m tests (rest_rises n m tests r) k f)

first_not_below : (m : ℕ) (tests : List (ℕ × Bool)) → T (rising m tests) → (k : ℕ) → Applies k ((m, false) ∷ tests) → m ≤ k
unfolding Applies
first_not_below m tests r k (inl f) = le_of_eq f.0
first_not_below m tests r k (inr f) = not_below m tests r k f

-- ---- one test more in front
-- a test that passes adds nothing
behind : (m k : ℕ) (tests : List (ℕ × Bool)) → Applies k ((m, true) ∷ tests) → Applies k tests
unfolding Applies
behind m k tests (inl f) = absurd (true≢false f.1)
behind m k tests (inr f) = f

in_front : (m k : ℕ) (tests : List (ℕ × Bool)) → Applies k tests → Applies k ((m, true) ∷ tests)
unfolding Applies
in_front m k tests f = inr f

-- a test that fails applies
itself : (m : ℕ) (tests : List (ℕ × Bool)) → Applies m ((m, false) ∷ tests)
unfolding Applies
itself m tests = inl (refl, refl)

none_of_nothing : (k : ℕ) → Applies k [] → ⊥
unfolding Applies
none_of_nothing k f = f

-- ---- the walk
abbrev Judged : List (ℕ × Bool) → ℕ → Type 0
Judged tests l = ((l ≡ 0) × ((k : ℕ) → Applies k tests → ⊥)) ⊎ ((0 < l) × Lowest l tests)

judge : (n : ℕ) (tests : List (ℕ × Bool)) → 0 < n → T (rising n tests) → Judged tests (lowest tests)
unfolding lowest rising
judge n [] N r = inl (refl, none_of_nothing)
judge n ((m, true) ∷ tests) N r = passed (judge m tests (omega (arith, step_up n m tests r)) (rest_rises n m tests r))
  where
    passed : Judged tests (lowest tests) → Judged ((m, true) ∷ tests) (lowest tests)
    passed (inl j) = inl (j.0, λ k f. j.1 k (behind m k tests f))
    passed (inr j) =
        inr (j.0, record { applies = in_front m (lowest tests) tests j.1.applies; no_lower = λ k f. j.1.no_lower k (behind m k tests f) })
judge n ((m, false) ∷ tests) N r =
    inr (omega (arith, step_up n m tests r), record { applies = itself m tests; no_lower = first_not_below m tests (rest_rises n m tests r) })

-- ---- both directions
one_lowest : (m n : ℕ) (tests : List (ℕ × Bool)) → Lowest m tests → Lowest n tests → m ≡ n
one_lowest m n tests p q = le_antisymm (p.no_lower n q.applies) (q.no_lower m p.applies)

not_both : (n : ℕ) → n ≡ 0 → 0 < n → ⊥
not_both n e h = omega arith

says : (tests : List (ℕ × Bool)) → Judged tests (lowest tests) → Says tests
says tests (inl j) = record {
  done = (λ _. j.1, λ _. j.0);
  refused = λ n N. (λ e. absurd (not_both n (sym e ∙ j.0) N), λ l. absurd (j.1 n l.applies));
}
says tests (inr j) = record {
  done = (λ e. absurd (not_both (lowest tests) e j.0), λ none. absurd (none (lowest tests) j.1.applies));
  refused = λ n N. (λ e. subst (λ (m : ℕ). Lowest m tests) e j.1, λ l. one_lowest (lowest tests) n tests j.1 l);
}

pub lowest_of_rising : (tests : List (ℕ × Bool)) → T (rising 1 tests) → Says tests
lowest_of_rising tests r = says tests (judge 1 tests (lit< tt) r)

-- a call that gets 0 passed every test: `.0` says so of the first, `.1 .0` of the second, and so on
abbrev pub AllPass : List (ℕ × Bool) → Type 0
AllPass [] = Unit {0}
AllPass ((n, passes) ∷ tests) = (passes ≡ true) × AllPass tests

passes_from : (n : ℕ) (tests : List (ℕ × Bool)) → 0 < n → T (rising n tests) → lowest tests ≡ 0 → AllPass tests
unfolding lowest rising
passes_from n [] N r z = tt
passes_from n ((m, true) ∷ tests) N r z = (refl, passes_from m tests (omega (arith, step_up n m tests r)) (rest_rises n m tests r) z)
passes_from n ((m, false) ∷ tests) N r z = absurd (not_both m z (omega (arith, step_up n m tests r)))

pub all_pass : (tests : List (ℕ × Bool)) → T (rising 1 tests) → lowest tests ≡ 0 → AllPass tests
all_pass tests r z = passes_from 1 tests (lit< tt) r z

pub first_passes : (n : ℕ) (passes : Bool) (tests : List (ℕ × Bool)) → 0 < n → lowest ((n, passes) ∷ tests) ≡ 0 → passes ≡ true
unfolding lowest
first_passes n true tests N e = refl
first_passes n false tests N e = absurd (not_both n e N)

pub rest_passes : (n : ℕ) (passes : Bool) (tests : List (ℕ × Bool)) → 0 < n → lowest ((n, passes) ∷ tests) ≡ 0 → lowest tests ≡ 0
unfolding lowest
rest_passes n true tests N e = e
rest_passes n false tests N e = absurd (not_both n e N)

-- ---- what callers end with: an answer whose number n is the definition's m
-- at 0 it has the value
pub gives : {A : Type 0} {n m : ℕ} {x y : A} → n ≡ m → n ≡ 0 → x ≡ y → (0 ≡ m) × (x ∷ [] ≡ when_done m y)
gives {A} {n} {m} {x} {y} e z p = (sym z ∙ e, subst (λ (k : ℕ). x ∷ [] ≡ when_done k y) (sym z ∙ e) (ap (λ (a : A). a ∷ []) p))

-- at another number it has none
pub refuses : {A : Type 0} {n m : ℕ} (y : A) → n ≡ m → (n ≡ 0 → ⊥) → (n ≡ m) × ([] ≡ when_done m y)
refuses {A} {n} {m} y e z = (e, subst (λ (k : ℕ). [] ≡ when_done k y) e (simp (ne_eqb n 0 z)))

-- ---- a call that hands on another's answer, whose number is n and whose values are `when_done n y`
-- at 0 the value is y
pub done_equal : {A : Type 0} {n : ℕ} {x : A} (y : A) → 0 ≡ n → x ∷ [] ≡ when_done n y → x ≡ y
done_equal {A} {n} {x} y z e = single x y (e ∙ ap (λ (k : ℕ). when_done k y) (sym z))
  where
    head_or : A → List A → A
    head_or a [] = a
    head_or a (b ∷ rest) = b

    single : (x y : A) → x ∷ [] ≡ y ∷ [] → x ≡ y
    single x y p = ap (head_or x) p

-- and what is written is that
pub written_done : {A : Type 0} {n : ℕ} {x : A} (y old : A) → 0 ≡ n → x ≡ y → x ≡ written n y old
written_done {A} {n} {x} y old z e = e ∙ ap (λ (k : ℕ). written k y old) z

pub done_writes : {A : Type 0} {n : ℕ} {x : A} (y old : A) → 0 ≡ n → x ∷ [] ≡ when_done n y → (0 ≡ n) × (x ≡ written n y old)
done_writes {A} {n} {x} y old z e = (z, written_done y old z (done_equal y z e))

-- at another number what stood there stays
pub stays : {A : Type 0} {n : ℕ} (new old : A) → (n ≡ 0 → ⊥) → old ≡ written n new old
stays {A} {n} new old refused = simp (ne_eqb n 0 refused)

-- and so it does where the answer has no value
pub none_keeps : {A B : Type 0} (n : ℕ) (y : B) → [] ≡ when_done n y → (new old : A) → old ≡ written n new old
none_keeps {A} {B} n y none new old = kept (eqb n 0) none
  where
    kept : (b : Bool) → [] ≡ cond b (y ∷ []) [] → old ≡ cond b new old
    kept true p = absurd (nil≢cons p)
    kept false p = refl

pub refusal_keeps : {A B : Type 0} {m n : ℕ} (y : B) (new old : A) → m ≡ n → [] ≡ when_done n y → (m ≡ n) × (old ≡ written n new old)
refusal_keeps {A} {B} {m} {n} y new old e none = (e, none_keeps n y none new old)

-- The same of an answer r that an arm knows by its case. `no` gives an answer's number and `values` its values; the other call's number and
-- value are those of this one.
module _ {R A : Type 0} (no : R → ℕ) (values : R → List A) {r case : R} (known : r ≡ case) {n n' : ℕ} (same_number : n' ≡ n) {y y' : A} (same-value : y' ≡ y) where
  number : no r ≡ n' → no case ≡ n
  number e = sym (ap no known) ∙ e ∙ same_number

  held : values r ≡ when_done n' y' → values case ≡ when_done n y
  held e = sym (ap values known) ∙ e ∙ (λ i. when_done (same_number i) (same-value i))

  pub handed_value :
      {x : A} (old : A) → no case ≡ 0 → values case ≡ x ∷ [] → no r ≡ n' → values r ≡ when_done n' y' → (0 ≡ n) × (x ≡ written n y old)
  handed_value old zero-no one_value e v = done_writes y old (sym zero-no ∙ number e) (sym one_value ∙ held v)

  pub handed_refusal :
      {B : Type 0} {m : ℕ} (new old : B) → no case ≡ m → values case ≡ [] → no r ≡ n' → values r ≡ when_done n' y' → (m ≡ n) × (old ≡ written n new old)
  handed_refusal new old some-no no_value e v = refusal_keeps y new old (sym some-no ∙ number e) (sym no_value ∙ held v)

-- ---- an answer r that tells the number n and the value y, where the contract speaks of r's own number
pub record Tells {R A : Type 0} (no : R → ℕ) (values : R → List A) (r : R) (n : ℕ) (y : A) : Type 0 where
  pub number_is : no r ≡ n
  pub values_are : values r ≡ when_done n y

-- by the case that an arm knows
module _ {R A : Type 0} {no : R → ℕ} {values : R → List A} {r case : R} {n : ℕ} {y : A} (h : Tells no values r n y) (known : r ≡ case) where
  pub told_number : no case ≡ n
  told_number = sym (ap no known) ∙ h.number_is

  pub told_value : {x : A} → no case ≡ 0 → values case ≡ x ∷ [] → x ≡ y
  told_value zero-no one_value = done_equal y (sym zero-no ∙ told_number) (sym one_value ∙ sym (ap values known) ∙ h.values_are)

  pub told_nothing : values case ≡ [] → {B : Type 0} (new old : B) → old ≡ written (no case) new old
  told_nothing no_value new old =
      none_keeps (no case) y (sym no_value ∙ sym (ap values known) ∙ h.values_are ∙ ap (λ (k : ℕ). when_done k y) (sym told_number)) new old

-- a test that passed stands in front of the other call's
pub number_behind :
    (n : ℕ) {passes : Bool} {tests tests' : List (ℕ × Bool)} → passes ≡ true → tests' ≡ tests → lowest tests' ≡ lowest ((n, passes) ∷ tests)
unfolding lowest
number_behind n {passes} {tests} {tests'} h e = ap lowest e ∙ ap (λ (b : Bool). cond b (lowest tests) n) (sym h)

-- ---- two calls whose tests agree up to the first that fails have the same number, and write the same
-- one test more in front of both
pub lowest_behind :
    (n : ℕ) (passes : Bool) (tests tests' : List (ℕ × Bool)) → lowest tests ≡ lowest tests' → lowest ((n, passes) ∷ tests) ≡ lowest ((n, passes) ∷ tests')
unfolding lowest
lowest_behind n passes tests tests' e = ap (λ (l : ℕ). cond passes l n) e

-- The first tests give one verdict. Where it is that they pass, the calls are alike; what stands behind a test that fails is not looked at.
pub lowest_alike :
    (n : ℕ) {p q : Bool} (tests tests' : List (ℕ × Bool)) → p ≡ q → (q ≡ true → lowest ((n, p) ∷ tests) ≡ lowest ((n, q) ∷ tests')) →
    lowest ((n, p) ∷ tests) ≡ lowest ((n, q) ∷ tests')
unfolding lowest
lowest_alike n {p} {q} tests tests' verdict same = settled q refl
  where
    settled : (b : Bool) → q ≡ b → cond p (lowest tests) n ≡ cond q (lowest tests') n
    settled true e = same e
    settled false e = rw (verdict, e) refl

-- a test of two halves is two tests of one number
pub lowest_halves : (n : ℕ) (a b : Bool) (tests : List (ℕ × Bool)) → lowest ((n, a && b) ∷ tests) ≡ lowest ((n, a) ∷ (n, b) ∷ tests)
unfolding lowest
lowest_halves n true b tests = refl
lowest_halves n false b tests = refl

-- values that are one where the call is done
pub written_alike : {A : Type 0} (n : ℕ) {new new' : A} (old : A) → (n ≡ 0 → new ≡ new') → written n new old ≡ written n new' old
written_alike {A} n {new} {new'} old same = settled (eqb n 0) (λ e. same (eqb-true n 0 e))
  where
    settled : (b : Bool) → (b ≡ true → new ≡ new') → cond b new old ≡ cond b new' old
    settled true s = s refl
    settled false s = refl

-- what a callee whose number is 0 wrote
pub done_wrote : {A : Type 0} {n : ℕ} {got : A} (new old : A) → n ≡ 0 → got ≡ written n new old → got ≡ new
done_wrote {A} {n} {got} new old z e = e ∙ ap (λ (k : ℕ). written k new old) z

-- ---- what a test decides
pub if_true : {A : Type 0} {t : Bool} (x y : A) → t ≡ true → x ≡ cond t x y
if_true x y e = rw e

pub if_false : {A : Type 0} {t : Bool} (x y : A) → t ≡ false → y ≡ cond t x y
if_false x y e = rw e

-- ---- two lists of tests, one behind the other
-- where the first tests refuse, those behind them are not heard
pub refused_already : (tests more : List (ℕ × Bool)) → (lowest tests ≡ 0 → ⊥) → lowest tests ≡ lowest (tests ++ more)
unfolding lowest
refused_already [] more z = absurd (z refl)
refused_already ((n, true) ∷ tests) more z = refused_already tests more z
refused_already ((n, false) ∷ tests) more z = refl

-- where the first tests, in rising order from a number above 0, all pass, those behind them decide
pub decided_behind :
    (n : ℕ) (tests more : List (ℕ × Bool)) → 0 < n → T (rising n tests) → lowest tests ≡ 0 → lowest more ≡ lowest (tests ++ more)
unfolding lowest rising
decided_behind n [] more N r z = refl
decided_behind n ((m, true) ∷ tests) more N r z =
    decided_behind m tests more (omega (arith, step_up n m tests r)) (rest_rises n m tests r) z
decided_behind n ((m, false) ∷ tests) more N r z = absurd (not_both m z (omega (arith, step_up n m tests r)))
