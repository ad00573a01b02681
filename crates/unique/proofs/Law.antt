-- Why one answer is left: what a contract says of a result, or of a lent place, is an equation with one and the same thing. In each lemma p is what
-- the contract says of the first answer, clause by clause, and q of the second.
use Prim.Native.Nat.{ℕ}
use mathlib.Core.Path.{◌≡◌, sym, ap, subst, ◌∙◌}
use mathlib.Core.List.{List}
use seplogic.Ra.Ura.{Ura}
use base.Logic.{ent}
use contract.Monad.{conj, conj_l, conj_r, fact, fact_i, fact_use}
use contract.Lifetimes.{Lfts}
use denote.Triple.Clauses.{Lasts, AtExit, at_exit}
use borrow.Fn.Kinds.{ParamKind, ResultKind, Out, Dens, res_t, ended_of}
use Rattle.unique.specs.Unique.{OneAnswer}

infixr 20 ◌and◌
-- Two things that equal a third are equal.
pub same : {A : Type 0} {x y z : A} → x ≡ z → y ≡ z → x ≡ y
same e f = e ∙ sym f

-- And two that come in one way from two equal numbers.
pub same_by : {A : Type 0} (f : ℕ → A) {m n : ℕ} {x y : A} → m ≡ n → x ≡ f m → y ≡ f n → x ≡ y
same_by f e p q = same (p ∙ ap f e) q

-- Lent memory is a tuple, with nothing at a parameter that is not lent for writing. It is equal where each of its parts is.
pub ◌and◌ : {A B : Type 0} {u v : A × B} → u.0 ≡ v.0 → u.1 ≡ v.1 → u ≡ v
e and f = λ i. (e i, f i)

-- The law. Where a contract settles the result, and the lent memory that comes with one result, it leaves one answer.
pub once :
    (n : ℕ) (ps : List (ParamKind n)) (r : ResultKind n) (meets : Out n ps r)
    → ((κs : Lfts n) (a : Dens κs ps) (x y : (res_t r κs).Denot) (s t : AtExit (ended_of n ps r) κs) → meets κs a x s → meets κs a y t → x ≡ y)
    → ((κs : Lfts n) (a : Dens κs ps) (x : (res_t r κs).Denot) (u v : Lasts (ended_of n ps r) κs a)
    → meets κs a x (at_exit (ended_of n ps r) κs a u) → meets κs a x (at_exit (ended_of n ps r) κs a v) → u ≡ v)
    → OneAnswer n ps r meets
once n ps r meets result memory κs a x y u v p q =
    let e : x ≡ y = result κs a x y _ _ p q in
    (e, memory κs a x u v p (subst (λ z. meets κs a z (at_exit (ended_of n ps r) κs a v)) (sym e) q))

-- The same of two facts under ∧, for contracts with no plain type.
pub both : {M : Type 1} (𝓤 : Ura M) (P Q R : Type 0) → (P → Q → R) → ent 𝓤 (conj 𝓤 (fact 𝓤 P) (fact 𝓤 Q)) (fact 𝓤 R)
both 𝓤 P Q R f =
    fact_use 𝓤 P (conj_l 𝓤 (fact 𝓤 P) (fact 𝓤 Q))
    (λ p. fact_use 𝓤 Q (conj_r 𝓤 (fact 𝓤 P) (fact 𝓤 Q)) (λ q. fact_i 𝓤 R (conj 𝓤 (fact 𝓤 P) (fact 𝓤 Q)) (f p q)))
