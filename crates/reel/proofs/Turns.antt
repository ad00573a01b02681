-- What is left after a turn of the machine gives what is left of the file: turns that close, that say nothing, that depend on a test, that
-- read a unit whole or find the file cut short.
use Prim.Native.Nat.{ℕ, suc, ◌+◌, ◌-◌, ◌≤◌, ◌<◌}
use native.Mathlib.Nat.{le_trans}
use native.Mathlib.Omega.{arith}
use mathlib.Core.Path.{◌≡◌, refl}
use mathlib.Core.Bool.{Bool, true, false, cond}
use mathlib.Core.List.{List, [], ◌∷◌}
use lib.Dec.{eqb, leb}
use lib.ListN.{length, take, drop, length-take, length-drop}
use borrow.Author.Tests.{le-leb, lt-leb, leb-true, leb-false, ne_eqb}
use Rattle.reel.specs.declared.Tally.{Tally}
use Rattle.reel.specs.declared.Said.{Said}
use Rattle.reel.specs.declared.Said.TheVariants.{Quiet, Totals, Fault}
use Rattle.reel.specs.declared.Reel.{Reel}
use Rattle.reel.specs.declared.Next.{Next}
use Rattle.reel.specs.Reel.{whole, ending}
use Rattle.reel.specs.Machine.{want_of, close, whole_of, end_of, next_of, store_after, turn, store_then, left, heard, Ends}

-- ---- a count that is not 0 (`suc` and `eqb` do not compute)
pub some_left : (n : ℕ) → eqb (suc n) 0 ≡ false
some_left n = ne_eqb (suc n) 0 (λ h. omega arith)

pub one_less : (n : ℕ) → suc n - 1 ≡ n
one_less n = omega arith

-- ---- what follows a turn that led to `next`, in at most n turns
pub record After (n : ℕ) (next : Next) (store bytes : List ℕ) (all : List Said) : Type 0 where
  pub later : List Said
  pub goes_on : Ends next.reel store bytes later
  pub is : heard next.said later ≡ all
  pub quick : goes_on.turns ≤ n

pub by_turn : {r : Reel} {store bytes : List ℕ} {all : List Said}
    → After (length bytes + 1) (turn r store bytes) (store_then r store bytes) (left r bytes) all
    → Ends r store bytes all
by_turn a = record {
  turns = suc a.goes_on.turns;
  ends = a.goes_on.ends;
  says = rw a.goes_on.says a.is;
  few = omega (arith, a.quick);
}

-- the same where the unit's length, what it leads to and the store are known
pub by_unit : {r : Reel} {store bytes : List ℕ} {all : List Said} (k : ℕ) {next : Next} {kept : List ℕ} → want_of r ≡ k
    → next_of r store (take k bytes) ≡ next → store_after r store (take k bytes) ≡ kept
    → After (length bytes + 1) next kept (drop k bytes) all
    → Ends r store bytes all
by_unit {r} {store} {bytes} {all} k p q s a = by_turn (rw (p, q, s) a)

pub closed : {n : ℕ} (r : Reel) (number : ℕ) (store bytes : List ℕ) → After n (close r (Fault number)) store bytes (Fault number ∷ [])
closed r why store bytes = record {
  later = [];
  goes_on = record { turns = 0; ends = refl; says = refl; few = omega arith };
  is = refl;
  quick = omega arith;
}

totalled : {n : ℕ} (r : Reel) (t : Tally) (store bytes : List ℕ) → After n (close r (Totals t)) store bytes (Totals t ∷ [])
totalled r t store bytes = record {
  later = [];
  goes_on = record { turns = 0; ends = refl; says = refl; few = omega arith };
  is = refl;
  quick = omega arith;
}

pub quiet : {r : Reel} {store bytes : List ℕ} {all : List Said} → Ends r store bytes all
    → After (length bytes + 2) (record { reel = r; said = Quiet }) store bytes all
quiet {all = all} s = record { later = all; goes_on = s; is = refl; quick = s.few }

more_turns : {n m : ℕ} {next : Next} {store bytes : List ℕ} {all : List Said} → n ≤ m → After n next store bytes all → After m next store bytes all
more_turns h a = record { later = a.later; goes_on = a.goes_on; is = a.is; quick = le_trans a.quick h }

-- ---- a test, on both sides
pub choose : {n : ℕ} (test : Bool) {yes-next no-next : Next} {store bytes : List ℕ} {yes-all no_all : List Said}
    → (test ≡ true → After n yes-next store bytes yes-all) → After n no-next store bytes no_all
    → After n (cond test yes-next no-next) store bytes (cond test yes-all no_all)
choose true p q = p refl
choose false p q = q

-- ---- a unit of k bytes
leb_take : (k : ℕ) (bytes : List ℕ) (b : Bool) → leb k (length bytes) ≡ b → leb k (length (take k bytes)) ≡ b
leb_take k bytes true e =
    let h : k ≤ length bytes = leb-true _ _ e in
    le-leb k (length (take k bytes)) (simp length-take (omega arith))
leb_take k bytes false e =
    let h : length bytes < k = leb-false _ _ e in
    lt-leb k (length (take k bytes)) (simp length-take (omega arith))

fewer : (k : ℕ) (bytes : List ℕ) → 1 ≤ k → k ≤ length bytes → length (drop k bytes) + 2 ≤ length bytes + 1
fewer k bytes h g = simp length-drop (omega arith)

module _ (k : ℕ) (r : Reel) (store kept bytes : List ℕ) (some : 1 ≤ k) where
  branch : (b : Bool) {next : Next} {all : List Said} → leb k (length bytes) ≡ b
      → After (length (drop k bytes) + 2) next kept (drop k bytes) all
      → After (length bytes + 1) (cond b next (close r (Fault 6))) (cond b kept store) (drop k bytes) (cond b all (Fault 6 ∷ []))
  branch true e a = more_turns (fewer k bytes some (leb-true _ _ e)) a
  branch false e a = closed r 6 store (drop k bytes)

  -- one that changes the store
  pub stored_unit : (more : List ℕ → List ℕ → List Said) {next : Next}
      → After (length (drop k bytes) + 2) next kept (drop k bytes) (more (take k bytes) (drop k bytes))
      → After (length bytes + 1) (whole_of r k (take k bytes) next) (cond (leb k (length (take k bytes))) kept store) (drop k bytes) (whole k more bytes)
  unfolding whole
  stored_unit more a = rw (leb_take k bytes (leb k (length bytes)) refl) (branch (leb k (length bytes)) refl a)

same_store : (b : Bool) (store : List ℕ) → cond b store store ≡ store
same_store true store = refl
same_store false store = refl

-- one that does not
pub unit : (k : ℕ) (r : Reel) (store bytes : List ℕ) → 1 ≤ k → (more : List ℕ → List ℕ → List Said) {next : Next}
    → After (length (drop k bytes) + 2) next store (drop k bytes) (more (take k bytes) (drop k bytes))
    → After (length bytes + 1) (whole_of r k (take k bytes) next) store (drop k bytes) (whole k more bytes)
unit k r store bytes some more a = rw (same_store (leb k (length (take k bytes))) store) at (stored_unit k r store store bytes some more a)

-- ---- the end
pub ended : (r : Reel) (store bytes : List ℕ) → After (length bytes + 1) (end_of r (take 1 bytes)) store (drop 1 bytes) (ending r.tally bytes)
unfolding end_of
ended r store [] = totalled r r.tally store []
ended r store (b ∷ bytes) = rw (some_left (length bytes)) (closed r 3 store (drop 1 (b ∷ bytes)))
