-- Words about contracts: what one comes to, as a plain type over the parameters of its signature (as `Post` of its module reads it), and what a call finds.
use Rattle.std.specs.Prelude.{ℕ, List}
use contract.Lifetimes.{Lfts}
use Rattle.std.specs.Borrow.{Bor}
use denote.MutBor.{MutBor}
use denote.Triple.Both.{Both}
use denote.Triple.Clauses.{AtExit}
use borrow.Fn.Kinds.{ParamKind, ResultKind, Out, Dens, res_t, ended_of}

-- Of a function with n lifetimes, the parameters ps and the result r, whatever the arguments a: a result x and what stands in the parameters at exit,
-- s, that meet the contract, are as is said. A parameter is `.0` of what is left after those before it.
abbrev pub Comes : (n : ℕ) (ps : List (ParamKind n)) (r : ResultKind n) → Out n ps r
    → ((κs : Lfts n) → Dens κs ps → (res_t r κs).Denot → AtExit (ended_of n ps r) κs → Type 0) → Type 0
Comes n ps r meets says = (κs : Lfts n) (a : Dens κs ps) (x : (res_t r κs).Denot) (s : AtExit (ended_of n ps r) κs) → meets κs a x s → says κs a x s

-- A slice of bytes as an `ensures` has it: `.entry` is what is lent, and `now slice.entry` the bytes that the call finds.
abbrev pub Slice : Type 0 → Type 0
Slice A = Both (Bor (List ℕ)) A

-- The same of one that is lent for writing: `.entry.now` is what stands there when the call begins.
abbrev pub Output : Type 0 → Type 0
Output A = Both (MutBor (List ℕ)) A
