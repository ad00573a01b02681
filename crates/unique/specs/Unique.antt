-- What it means that nothing else would satisfy a contract (docs/RULES.md, "How tight the statements are"). The very contract is meant: for a
-- function, `meets` is its `Post`, which is its `ensures` read as a plain type.
use Rattle.std.specs.Prelude.{ℕ, ◌≡◌, List}
use seplogic.Ra.Ura.{Ura}
use base.Logic.{ent}
use contract.Monad.{conj, fact}
use contract.Lifetimes.{Lfts}
use Rattle.std.specs.Borrow.{Bor}
use denote.Triple.Entry.{Args, Res}
use denote.Triple.Clauses.{Ended, Clauses, Lasts, AtExit, at_exit}
use borrow.Fn.Kinds.{ParamKind, ResultKind, Out, Dens, res_t, ended_of}

-- Two answers x and y, with the lent memory u and v that they leave, that both meet the contract are equal, whatever the arguments a. A function has
-- n lifetimes, the parameters ps and the result r.
abbrev pub OneAnswer : (n : ℕ) (ps : List (ParamKind n)) (r : ResultKind n) → Out n ps r → Type 0
OneAnswer n ps r meets =
    (κs : Lfts n) (a : Dens κs ps) (x y : (res_t r κs).Denot) (u v : Lasts (ended_of n ps r) κs a) →
    meets κs a x (at_exit (ended_of n ps r) κs a u) → meets κs a y (at_exit (ended_of n ps r) κs a v) → (x ≡ y) × (u ≡ v)

-- where a reference points, and what stands there: all of it but the name by which the prover follows it
abbrev pub placed : {X : Type 0} → Bor X → (ℕ × ℕ) × X
placed x = (x.ref_ptr, x.now)

-- The same where the result is a reference: `content` says what of it is settled.
abbrev pub OneContent : {X : Type 0} (n : ℕ) (ps : List (ParamKind n)) (r : ResultKind n) → ((κs : Lfts n) → (res_t r κs).Denot → X) → Out n ps r → Type 0
OneContent n ps r content meets =
    (κs : Lfts n) (a : Dens κs ps) (x y : (res_t r κs).Denot) (u v : Lasts (ended_of n ps r) κs a) →
    meets κs a x (at_exit (ended_of n ps r) κs a u) → meets κs a y (at_exit (ended_of n ps r) κs a v) → (content κs x ≡ content κs y) × (u ≡ v)

-- The same of a contract that has no plain type, as that of a function which takes or gives a struct with a reference in it: both clauses
-- together entail that the answers are equal. Nothing is lent for writing.
abbrev pub OneAnswerBy : {M : Type 1} (𝓤 : Ura M) (T : Ended) → Clauses 𝓤 T → Type 1
OneAnswerBy 𝓤 T meets =
    (κs : Lfts T.signature.lifetimes) (a : Args T.signature κs) (g : (meets κs a).ghost) (x y : Res T.signature κs) (s t : AtExit T κs) →
    ent 𝓤 (conj 𝓤 ((meets κs a).ensures g x s) ((meets κs a).ensures g y t)) (fact 𝓤 (x ≡ y))
