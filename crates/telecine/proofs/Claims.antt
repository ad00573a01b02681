-- The claims of specs/Claims.antt.
use Prim.Native.Nat.{ℕ, zero, suc, ◌≤◌}
use native.Mathlib.Omega.{arith}
use mathlib.Core.Path.{◌≡◌, refl, sym, ap, ap₂, ◌∙◌}
use mathlib.Core.Bool.{Bool, true, false, cond}
use mathlib.Core.List.{List, [], ◌∷◌, ◌++◌}
use lib.Dec.{eqb}
use lib.ListN.{length}
use borrow.Author.Tests.{ne_eqb}
use Rattle.std.proofs.Common.{Option, Some, None}
use Rattle.pulldown.specs.declared.Symbol.{Symbol}
use Rattle.laws.specs.Refusal.{rising, written}
use Rattle.laws.specs.Rows.{over}
use Rattle.laws.proofs.Claims.{lowest_says}
use Rattle.field.specs.declared.Parity.{Parity}
use Rattle.field.specs.declared.Parity.TheVariants as parity
use Rattle.field.specs.Field.{first_row_of, other_of}
use Rattle.block.specs.Block.{total_of, rows_of}
use Rattle.block.proofs.Claims as block
use Rattle.pulldown.specs.Symbols.{symbol_of}
use Rattle.pulldown.specs.Lock.{lock_of, advance_of}
use Rattle.pulldown.specs.Lock as lock
use Rattle.refusal.proofs.Claims.{one_answered}
use Rattle.pulldown.proofs.Claims as lock-proofs
use Rattle.telecine.specs.Detector.{comparable, symbol_against, seen_picture, kept_as, measured_tests, push_tests, push_no}
use Rattle.telecine.specs.History.{Push, picture, measured, Call, push, reset, State, next, after, number_of, cadence_of, last_picture, last_parity, seen_of, seens, refusal_tests, refusal_of, taken}
use Rattle.telecine.specs.Claims.{ThirdDemand, Runs, RunConsecutive, RefusalKnown, RefusalSays, PushSays, MeasuredSays, RefusedLeaves, RefusedCountsNothing}
use Rattle.telecine.specs.Claims.{CodesSettle, LockedSays, PredictSays, ResetForgets, ResetIsFresh, PushedSettled}
use Rattle.telecine.proofs.Reached.{few_before, number_known, cadence_known, any_reached}
use Rattle.telecine.proofs.Reached as reached

-- ---- what a push gets
pub refusal_known : RefusalKnown
refusal_known store u earlier = number_known (length store) (after store earlier) (taken (length store) earlier) (any_reached store earlier) u

-- ---- demand 3
module _ (store : List ℕ) (u : Push) (calls : List Call) where
  abbrev pub known : List Call
  known = taken (length store) calls

  pub cadence_is : cadence_of store u calls ≡ lock.push_cadence (lock_of (seens known)) (seen_of u known)
  cadence_is = cadence_known (after store calls) known (any_reached store calls) u

pub third_demand : ThirdDemand
third_demand store u earlier e =
    let known = taken (length store) earlier in
    rw (cadence_is store u earlier)
    (lock-proofs.third_demand (seen_of u known) (seens known) (few_before (length store) u known (sym (refusal_known store u earlier) ∙ e))).1

-- ---- runs
pub runs : Runs
runs u earlier = record {
  fresh = refl;
  anew = refl;
  not_comparable = λ e. rw e;
  contradicting = λ c. rw c.compared ((lock-proofs.runs c.symbol (seens earlier)).contradicting c.contradicting);
  longer = λ s e none. rw e ((lock-proofs.runs s (seens earlier)).longer (λ c. none (record { symbol = s; compared = e; contradicting = c })));
}

pub run_consecutive : RunConsecutive
run_consecutive calls f earlier later e = lock-proofs.run_consecutive (seens calls) f earlier later e

-- ---- refusals
pub refusal_says : RefusalSays
unfolding rising
refusal_says room (picture plane s first) earlier = lowest_says (refusal_tests room (picture plane s first) earlier) tt
refusal_says room (measured first m) earlier = lowest_says (refusal_tests room (measured first m) earlier) tt

pub push_says : PushSays
unfolding rising
push_says d s bytes room = lowest_says (push_tests d s bytes room) tt

pub measured_says : MeasuredSays
unfolding rising
measured_says d = lowest_says (measured_tests d) tt

pub refused_leaves : RefusedLeaves
refused_leaves = reached.refused_leaves

one_call : (store : List ℕ) (u : Push) (earlier : List Call) (n : ℕ) → number_of store u earlier ≡ n
    → after store earlier ≡ after store (taken (length store) earlier)
    → next (after store earlier) (push u) ≡ after store (cond (eqb n 0) (push u ∷ taken (length store) earlier) (taken (length store) earlier))
one_call store u earlier zero e same = ap (λ (state : State). next state (push u)) same
one_call store u earlier (suc n) e same =
    rw (ne_eqb (suc n) 0 (omega arith)) (reached.refused_leaves (after store earlier) u (λ z. omega arith) ∙ same)

pub refused_counts_nothing : RefusedCountsNothing
refused_counts_nothing store [] = refl
refused_counts_nothing store (push u ∷ earlier) =
    one_call store u earlier (refusal_of (length store) u (taken (length store) earlier)) (refusal_known store u earlier)
    (refused_counts_nothing store earlier)
refused_counts_nothing store (reset ∷ earlier) = ap (λ (state : State). next state reset) (refused_counts_nothing store earlier)

-- ---- stray bits
row_low : (first : Parity) → first_row_of first ≤ 1
row_low parity.Top = omega arith
row_low parity.Bottom = omega arith

pub codes_settle : CodesSettle
unfolding symbol_against
codes_settle state plane plane' s first long same =
    let d = state.detector in
    let store = state.store in
    let leading = (block.codes_settle plane plane' s store (first_row_of first) (row_low first) same).1 in
    let trailing = (block.codes_settle plane plane' s store (first_row_of (other_of first)) (row_low (other_of first)) same).1 in
    let kept = (block.codes_settle plane plane' s store 0 (omega arith) same).0 in
    let total = total_of s.width (rows_of s.height (first_row_of first)) in
    let seen : seen_picture d.kept store plane s first ≡ seen_picture d.kept store plane' s first =
    (λ i. cond (comparable d.kept s first) (Some (symbol_of (leading i) total (trailing i))) None) in (
      (λ i. push_no d s (long i) (length store)),
      (λ i. lock.push_cadence d.lock (seen i)),
      (λ i. record {
        detector =
            written (push_no d s (long i) (length store)) (record { lock = advance_of d.lock (seen i); kept = kept_as s first; last = Some first }) d;
        store = written (push_no d s (long i) (length store)) (over (kept i) store) store;
      }),
    )

-- ---- `locked` and `predict`
pub locked_says : LockedSays
locked_says store calls =
    let h = any_reached store calls in
    rw h.lock (lock-proofs.locked_says (seens (taken (length store) calls)) h.few)

pub predict_says : PredictSays
predict_says store calls ahead =
    let h = any_reached store calls in
    rw h.lock (lock-proofs.predict_says (seens (taken (length store) calls)) ahead h.few)

-- ---- resets

-- two histories that no later call can tell apart
record Same (a b : List Call) : Type 0 where
  seen : seens a ≡ seens b
  picture : last_picture a ≡ last_picture b
  parity : last_parity a ≡ last_parity b

same_frame : (u : Push) (a b : List Call) → Same a b → seen_of u a ≡ seen_of u b
same_frame (picture plane s first) a b h = rw h.picture
same_frame (measured first m) a b h = rw h.parity

same_refusal : (room : ℕ) (u : Push) (a b : List Call) → Same a b → refusal_of room u a ≡ refusal_of room u b
same_refusal room (picture plane s first) a b h = rw h.seen
same_refusal room (measured first m) a b h = rw h.seen

same_seens : (u : Push) (a b : List Call) → Same a b → seens (push u ∷ a) ≡ seens (push u ∷ b)
same_seens u a b h = ap₂ (λ (s : Option Symbol) (earlier : List (Option Symbol)). s ∷ earlier) (same_frame u a b h) h.seen

same_push : (u : Push) (a b : List Call) → Same a b → Same (push u ∷ a) (push u ∷ b)
same_push (picture plane s first) a b h = record { seen = same_seens (picture plane s first) a b h; picture = refl; parity = refl }
same_push (measured first m) a b h = record { seen = same_seens (measured first m) a b h; picture = h.picture; parity = refl }

same_if : (u : Push) (a b : List Call) (test : Bool) → Same a b → Same (cond test (push u ∷ a) a) (cond test (push u ∷ b) b)
same_if u a b true h = same_push u a b h
same_if u a b false h = h

same_taken : (room : ℕ) (u : Push) (a b : List Call) → Same a b
    → Same (cond (eqb (refusal_of room u a) 0) (push u ∷ a) a) (cond (eqb (refusal_of room u b) 0) (push u ∷ b) b)
same_taken room u a b h = rw (same_refusal room u a b h) (same_if u a b (eqb (refusal_of room u b) 0) h)

module _ (room : ℕ) (earlier before : List Call) (parity : last_parity (taken room earlier) ≡ last_parity (taken room before)) where
  same_later : (later : List Call) → Same (taken room (later ++ (reset ∷ earlier))) (taken room (later ++ (reset ∷ before)))
  same_later [] = record { seen = refl; picture = refl; parity = parity }
  same_later (push u ∷ later) =
      same_taken room u (taken room (later ++ (reset ∷ earlier))) (taken room (later ++ (reset ∷ before))) (same_later later)
  same_later (reset ∷ later) = record { seen = refl; picture = refl; parity = (same_later later).parity }

pub reset_forgets : ResetForgets
reset_forgets store other u later earlier before long parity =
    let a = later ++ (reset ∷ earlier) in
    let b = later ++ (reset ∷ before) in
    let h = same_later (length other) earlier before (rw long at parity) later in (
      rw (refusal_known store u a, refusal_known other u b, long) (same_refusal (length other) u (taken (length other) a) (taken (length other) b) h),
      rw (cadence_is store u a, cadence_is other u b, long, same_frame u (taken (length other) a) (taken (length other) b) h, h.seen),
    )

pub reset_is_fresh : ResetIsFresh
reset_is_fresh d none = rw none

-- ---- results
pub pushed_settled : PushedSettled
pushed_settled a b same number values =
    λ i. record { detector = same i; answer = one_answered _ a.answer b.answer number values i }
