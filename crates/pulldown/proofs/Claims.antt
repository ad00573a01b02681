-- The claims of specs/Claims.antt, with the laws by which a later crate carries them over to its own calls: `holds` after any history, `push_taken`
-- and `one_taken` of any lock.
use Prim.Native.Nat.{ℕ, zero, suc, ◌+◌, min, ◌<◌, ◌≤◌}
use native.Mathlib.Omega.{arith}
use mathlib.Core.Path.{◌≡◌, refl, sym, ap, ◌∙◌, subst}
use mathlib.Core.Logic.{◌⊎◌, inl, inr, ⊎_elim, ◌↔◌}
use mathlib.Core.List.{List, [], ◌∷◌, ◌++◌}
use mathlib.Core.Bool.{Bool, true, false, cond}
use lib.ListN.{length, drop}
use lib.Dec.{leb, ltb}
use borrow.Author.Tests.{ltb-true, ltb-false, lt-ltb, le-ltb, leb-true, leb-false, le-leb, lt-leb, not-true}
use Rattle.laws.specs.Refusal.{lowest}
use Rattle.field.specs.declared.Cadence.TheVariants as cadence
use Rattle.pulldown.specs.declared.Symbol.{Symbol}
use Rattle.pulldown.specs.declared.Symbol.TheVariants.{Still, Moved, RepeatFirst, RepeatSecond}
use Rattle.std.proofs.Common.{Option, Some, None}
use Rattle.pulldown.specs.declared.Lock.{Lock}
use Rattle.pulldown.specs.Table.{cadence_at}
use Rattle.pulldown.specs.Runs.{Frame, frame_of, step_of, Meets, meets, phase_of, lock_frame, contradicts, go_on, run_of, cadence_by, foretold}
use Rattle.pulldown.specs.Lock.{advance_of, push_lock, lock_of}
use Rattle.pulldown.specs.Claims.{Third, ThirdDemand, OnePhase, MeetsDecided, PhaseSays}
use Rattle.pulldown.specs.Claims.{Contradicts, Runs, RunConsecutive, Locked, LockFrameSays, LockedSays, PredictSays, PushSays, PredictNo, CodeSeen}
use Rattle.laws.proofs.Bools.{known, clash, and_left, and_right}
use Rattle.pulldown.proofs.Phases.{meets_of, meets_from, phase_is, phase_met, phase_none, no_phase, none_met, met_before}
use Rattle.pulldown.proofs.Phases as phases
use Rattle.pulldown.proofs.Holds.{Holds, holds_fresh, holds_next}

-- ---- phases
pub one_phase : OnePhase
one_phase p q run h k a b = phases.one_phase p q run h k (meets_of p run a) (meets_of q run b)

pub meets_decided : MeetsDecided
meets_decided p run = (meets_from p run, meets_of p run)

-- a run meets a phase, or has none
met_or_none : (run : List Frame)
    → ((phase_of run < 5) × Meets (phase_of run) run) ⊎ ((phase_of run ≡ 5) × ((p : ℕ) → p < 5 → Meets p run → ⊥))
met_or_none run =
    ⊎_elim (λ h. inl (ltb-true _ _ h, meets_from _ run (phase_met run (ltb-true _ _ h)))) (λ h. inr (none (ltb-false _ _ h)))
    (known (ltb (phase_of run) 5))
  where
    none : 5 ≤ phase_of run → (phase_of run ≡ 5) × ((p : ℕ) → p < 5 → Meets p run → ⊥)
    none h = (no_phase run (phase_none run h), λ p k m. clash (meets_of p run m) (phase_none run h p k))

pub phase_says : PhaseSays
phase_says run =
    ((λ p h. (λ e. met p h e, λ m. phase_is p run h (meets_of p run m))), (λ e. none e, λ n. no_phase run (λ p h. unmet n p h)))
  where
    met : (p : ℕ) → p < 5 → phase_of run ≡ p → Meets p run
    met p h e = subst (λ (q : ℕ). Meets q run) e (meets_from _ run (phase_met run (omega arith)))

    none : phase_of run ≡ 5 → (p : ℕ) → p < 5 → Meets p run → ⊥
    none e p h m = clash (meets_of p run m) (phase_none run (omega arith) p h)

    unmet : ((p : ℕ) → p < 5 → Meets p run → ⊥) → (p : ℕ) → p < 5 → meets p run ≡ false
    unmet n p h = ⊎_elim (λ m. absurd (n p h (meets_from p run m))) (λ m. m) (known (meets p run))

-- ---- lock frames
locked_here : (p : ℕ) (f : Frame) (earlier : List Frame) → Meets p (f ∷ earlier) → 5 ≤ phase_of earlier → Locked p (f ∷ earlier)
locked_here p f earlier m h = record {
  m = f;
  earlier = earlier;
  later = [];
  in_run = refl;
  number = rw (le-ltb (phase_of earlier) 5 h);
  unmet = λ q k e. clash (meets_of q earlier e) (phase_none earlier h q k);
  met = here;
}
  where
    here : (k : ℕ) → k ≤ 0 → Meets p (drop k (f ∷ earlier))
    here zero h = m
    here (suc k) h = absurd (omega arith)

locked_before : (p : ℕ) (f : Frame) (earlier : List Frame) → Meets p (f ∷ earlier) → phase_of earlier < 5 → Locked p earlier
    → Locked p (f ∷ earlier)
locked_before p f earlier m h l = record {
  m = l.m;
  earlier = l.earlier;
  later = f ∷ l.later;
  in_run = ap (λ (frames : List Frame). f ∷ frames) l.in_run;
  number = rw (lt-ltb (phase_of earlier) 5 h) l.number;
  unmet = l.unmet;
  met = since;
}
  where
    since : (k : ℕ) → k ≤ suc (length l.later) → Meets p (drop k (f ∷ earlier))
    since zero h = m
    since (suc k) h = l.met k (omega arith)

locked : (p : ℕ) (run : List Frame) → p < 5 → meets p run ≡ true → Locked p run
locked p [] h m = absurd (none_met p m)
locked p (f ∷ earlier) h m =
    let here = meets_from p (f ∷ earlier) m in
    ⊎_elim (λ k. locked_before p f earlier here (ltb-true _ _ k) (locked p earlier h (met_before p f earlier h m (ltb-true _ _ k))))
    (λ k. locked_here p f earlier here (ltb-false _ _ k))
    (known (ltb (phase_of earlier) 5))

pub lock_frame_says : LockFrameSays
lock_frame_says p run h m = locked p run h (meets_of p run m)

-- ---- runs
module _ (s : Symbol) (earlier : List (Option Symbol)) where
  abbrev f : Frame
  f = frame_of (length earlier) s

  contradicting : Contradicts s earlier → run_of (Some s ∷ earlier) ≡ []
  unfolding go_on contradicts
  contradicting c = rw (phase_is c.p (run_of earlier) c.below (meets_of _ _ c.met), lt-ltb c.p 5 c.below, c.neither)

  contradicts_from : contradicts (phase_of (run_of earlier)) f ≡ true → Contradicts s earlier
  unfolding contradicts
  contradicts_from e =
      let h = ltb-true (phase_of (run_of earlier)) 5 (and_left _ _ e) in
      record {
        p = phase_of (run_of earlier);
        below = h;
        met = meets_from _ _ (phase_met (run_of earlier) h);
        neither = not-true _ (and_right (ltb (phase_of (run_of earlier)) 5) _ e);
      }

  longer : (Contradicts s earlier → ⊥) → run_of (Some s ∷ earlier) ≡ f ∷ run_of earlier
  unfolding go_on
  longer none = ⊎_elim (λ e. absurd (none (contradicts_from e))) (λ e. rw e) (known (contradicts (phase_of (run_of earlier)) f))

pub runs : Runs
runs s earlier = record { fresh = refl; not_comparable = refl; contradicting = contradicting s earlier; longer = longer s earlier }

-- an empty run has no frame
no_frame : (f : Frame) (earlier later : List Frame) → [] ≡ later ++ (f ∷ earlier) → ⊥
no_frame f earlier [] e = omega (arith, ap length e)
no_frame f earlier (g ∷ later) e = omega (arith, ap length e)

consecutive_after : (b : Bool) (n : ℕ) (s : Symbol) (run : List Frame)
    → ((f : Frame) (earlier later : List Frame) → run ≡ later ++ (f ∷ earlier) → f.number + length later + 1 ≡ n)
    → (f : Frame) (earlier later : List Frame) → cond b [] (frame_of n s ∷ run) ≡ later ++ (f ∷ earlier) → f.number + length later + 1 ≡ suc n
consecutive_after true n s run before f earlier later e = absurd (no_frame f earlier later e)
consecutive_after false n s run before f earlier [] e = let z : n ≡ f.number = cc in omega arith
consecutive_after false n s run before f earlier (g ∷ later) e = let z = before f earlier later cc in omega arith

pub run_consecutive : RunConsecutive
unfolding go_on
run_consecutive [] g earlier later e = absurd (no_frame g earlier later e)
run_consecutive (None ∷ seens) g earlier later e = absurd (no_frame g earlier later e)
run_consecutive (Some s ∷ seens) g earlier later e =
    consecutive_after (contradicts (phase_of (run_of seens)) (frame_of (length seens) s)) (length seens) s (run_of seens) (run_consecutive seens) g earlier
    later e

-- ---- numbers

-- a number that is 0 where a test passes
done_or_refused : (b : Bool) (n : ℕ) → 0 < n → ((cond b 0 n ≡ n) ↔ (b ≡ false)) × ((cond b 0 n ≡ 0) ↔ (b ≡ true))
done_or_refused true n h = ((λ e. absurd (omega arith), λ e. clash refl e), (λ e. refl, λ e. refl))
done_or_refused false n h = ((λ e. refl, λ e. refl), (λ e. absurd (omega arith), λ e. clash e refl))

pub predict_no_lem : PredictNo
unfolding lowest
predict_no_lem ahead =
    let z = done_or_refused (leb ahead 1000000) 10 (omega arith) in
    ((λ e. leb-false _ _ (z.0.0 e), λ h. z.0.1 (lt-leb _ _ h)), (λ e. leb-true _ _ (z.1.0 e), λ h. z.1.1 (le-leb _ _ h)))

pub push_taken : (l : Lock) (s : Option Symbol) → l.course.taken < 4000000000 → push_lock l s ≡ advance_of l s
unfolding lowest
push_taken l s h = rw (lt-ltb l.course.taken 4000000000 h)

push_refused : (l : Lock) (s : Option Symbol) → 4000000000 ≤ l.course.taken → push_lock l s ≡ l
unfolding lowest
push_refused l s h = rw (le-ltb l.course.taken 4000000000 h)

pub one_taken : (l : Lock) (s : Option Symbol) → (advance_of l s).course.taken ≡ l.course.taken + 1
unfolding advance_of
one_taken l None = refl
one_taken l (Some s) = refl

all_taken : (seens : List (Option Symbol)) → (lock_of seens).course.taken ≡ min (length seens) 4000000000
all_taken [] = omega arith
all_taken (s ∷ earlier) =
    let l = lock_of earlier in
    let t = all_taken earlier in
    ⊎_elim (λ h. rw (push_taken l s (ltb-true _ _ h), one_taken l s) (omega (arith, ltb-true l.course.taken 4000000000 h)))
    (λ h. rw (push_refused l s (ltb-false _ _ h)) (omega (arith, ltb-false l.course.taken 4000000000 h)))
    (known (ltb l.course.taken 4000000000))

pub push_says : PushSays
unfolding lowest
push_says earlier s =
    let n = (lock_of earlier).course.taken in
    let z = done_or_refused (ltb n 4000000000) 9 (omega arith) in
    let t = all_taken earlier in
    record {
      refused = (λ e. omega (arith, ltb-false n 4000000000 (z.0.0 e)), λ e. z.0.1 (le-ltb n 4000000000 (omega arith)));
      done = (λ e. ltb-true n 4000000000 (z.1.0 e), λ h. z.1.1 (lt-ltb n 4000000000 h));
      taken = t;
      unchanged = λ e. push_refused (lock_of earlier) s (ltb-false n 4000000000 (z.0.0 e));
    }

pub code_seen : CodeSeen
code_seen None = refl
code_seen (Some Still) = refl
code_seen (Some Moved) = refl
code_seen (Some RepeatFirst) = refl
code_seen (Some RepeatSecond) = refl

-- ---- histories
pub holds : (seens : List (Option Symbol)) → length seens ≤ 4000000000 → Holds (lock_of seens) seens
holds [] h = holds_fresh
holds (s ∷ earlier) h =
    let k = holds earlier (omega arith) in
    rw (push_taken (lock_of earlier) s (omega (arith, k.taken))) (holds_next (lock_of earlier) s earlier k)

-- ---- demand 3
not_none : (step : ℕ) → step < 5 → cadence_at step ≡ cadence.None → ⊥
not_none zero h e = let z : ◌≡◌ {A = ℕ} 0 1 = cc in omega arith
not_none (suc zero) h e = let z : ◌≡◌ {A = ℕ} 0 1 = cc in omega arith
not_none (suc (suc zero)) h e = let z : ◌≡◌ {A = ℕ} 0 1 = cc in omega arith
not_none (suc (suc (suc zero))) h e = let z : ◌≡◌ {A = ℕ} 0 1 = cc in omega arith
not_none (suc (suc (suc (suc zero)))) h e = let z : ◌≡◌ {A = ℕ} 0 1 = cc in omega arith
not_none (suc (suc (suc (suc (suc step))))) h e = omega arith

-- the cadence by the phase of the run is what the demand says
third : (n : ℕ) (run : List Frame) → Third n run (cadence_by (phase_of run) n)
third n run = record {
  exactly = (
    λ other. ⊎_elim (λ met. (phase_of run, met.0, met.1)) (λ none. absurd (other (unmet none.0))) (met_or_none run),
    λ met e. not_none (step_of met.0 n) (omega arith) (sym (entry met.0 met.1 met.2) ∙ e),
  );
  entry = entry;
}
  where
    entry : (p : ℕ) → p < 5 → Meets p run → cadence_by (phase_of run) n ≡ cadence_at (step_of p n)
    entry p h m = rw (phase_is p run h (meets_of p run m), lt-ltb p 5 h)

    unmet : phase_of run ≡ 5 → cadence_by (phase_of run) n ≡ cadence.None
    unmet e = rw e

pub third_demand : ThirdDemand
third_demand s earlier h =
    let k = holds earlier (omega arith) in (
      (push_says earlier s).done.1 (omega (arith, k.taken)),
      rw ((holds_next (lock_of earlier) s earlier k).phase, k.taken) (third (length earlier) (run_of (s ∷ earlier))),
    )

-- ---- `locked` and `predict`
pub locked_says : LockedSays
locked_says seens h =
    rw (holds seens h).phase (
      λ e. (phase_of (run_of seens), ltb-true _ _ e, meets_from _ _ (phase_met (run_of seens) (ltb-true _ _ e))),
      λ m. rw (phase_is m.0 (run_of seens) m.1 (meets_of _ _ m.2)) (lt-ltb m.0 5 m.1),
    )

foretold_by : (l : Lock) (seens : List (Option Symbol)) (at : ℕ) → Holds l seens
    → foretold l.course.phase l.course.since at ≡ foretold (phase_of (run_of seens)) (lock_frame (run_of seens)) at
unfolding foretold
foretold_by l seens at h =
    rw h.phase (⊎_elim (λ e. rw (h.since (ltb-true _ _ e))) (λ e. rw e) (known (ltb (phase_of (run_of seens)) 5)))

pub predict_says : PredictSays
predict_says seens ahead h =
    let k = holds seens h in
    let n : min (lock_of seens).course.taken 4000000000 ≡ length seens = omega (arith, k.taken) in
    rw n (foretold_by (lock_of seens) seens (length seens + ahead) k)
