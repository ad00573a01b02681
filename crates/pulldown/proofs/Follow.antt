-- One frame more: what `Lock` makes of the window and the phase before is the phase and the lock frame of the run that goes on. The
-- window is the last 15 frames of the run, and the phase before is that of the run, unless the frame is the twelfth still in a row.
use Prim.Native.Nat.{ℕ, zero, suc, ◌+◌, min, ◌<◌, ◌≤◌}
use native.Mathlib.Omega.{arith}
use mathlib.Core.Path.{◌≡◌, refl, sym, ◌∙◌}
use mathlib.Core.Logic.{⊎_elim}
use mathlib.Core.List.{List, [], ◌∷◌}
use mathlib.Core.Bool.{Bool, true, false, cond, ◌&&◌}
use lib.ListN.{take}
use lib.Dec.{ltb}
use borrow.Author.Tests.{ltb-true, ltb-false, lt-ltb, le-ltb}
use Rattle.pulldown.specs.declared.Symbol.{Symbol}
use Rattle.pulldown.specs.declared.Symbol.TheVariants.{Still, Moved, RepeatFirst, RepeatSecond}
use Rattle.pulldown.specs.Symbols.{same_symbol, one_if}
use Rattle.pulldown.specs.Runs.{Frame, step_of, still_or_expected, how_many, stills_in_a_row, agrees, locks_at, meets}
use Rattle.pulldown.specs.Runs.{phase_of, lock_frame, contradicts, go_on}
use Rattle.pulldown.specs.Lock.{candidate_of, locked_by, phase_after}
use Rattle.laws.proofs.Bools.{known, clash, and_left, and_right, and_fails}
use Rattle.pulldown.proofs.FirstPhase.{found, first_is, first_none}
use Rattle.pulldown.proofs.Phases.{agrees_from, locks_of, locks_agrees, locks_step, meets_at_lock, meets_on, On, meets_cases}
use Rattle.pulldown.proofs.Phases.{same_phase, phase_is, phase_met, phase_none, no_phase, phase_of_none}

-- ---- the phase that a window agrees with
candidate_is : (p : ℕ) (frames : List Frame) → p < 5 → agrees p frames ≡ true → candidate_of frames ≡ p
unfolding candidate_of
candidate_is p frames h e =
    let a = agrees_from p frames e in
    first_is (λ q. agrees q frames) p h e
    (λ q k b. same_phase q p frames k h (agrees_from q frames b).every a.every (omega (arith, a.firsts)))

candidate_agrees : (frames : List Frame) → candidate_of frames < 5 → agrees (candidate_of frames) frames ≡ true
unfolding candidate_of
candidate_agrees frames h = ⊎_elim (λ f. f.1) (λ n. absurd (omega arith)) (found (λ p. agrees p frames))

-- ---- twelve stills leave too few others for a window to agree
one_symbol : (s : Symbol) → one_if s Still + one_if s Moved + one_if s RepeatFirst + one_if s RepeatSecond ≤ 1
one_symbol Still = omega arith
one_symbol Moved = omega arith
one_symbol RepeatFirst = omega arith
one_symbol RepeatSecond = omega arith

in_a_row : (b : Bool) (k n : ℕ) → min (suc k) (cond b (suc n) 0) ≤ min k n + cond b 1 0
in_a_row true k n = omega arith
in_a_row false k n = omega arith

few_others : (k : ℕ) (run : List Frame)
    → how_many Moved (take k run) + how_many RepeatFirst (take k run) + how_many RepeatSecond (take k run) + min k (stills_in_a_row run) ≤ k
few_others zero run = omega arith
few_others (suc k) [] = omega arith
few_others (suc k) (f ∷ run) =
    omega (arith, few_others k run, one_symbol f.symbol, in_a_row (same_symbol f.symbol Still) k (stills_in_a_row run))

too_still : (p : ℕ) (run : List Frame) → 12 ≤ stills_in_a_row run → agrees p (take 15 run) ≡ false
too_still p run h =
    ⊎_elim (λ e. let a = agrees_from p (take 15 run) e in absurd (omega (arith, a.firsts, a.seconds, a.moved, few_others 15 run)))
    (λ e. e)
    (known (agrees p (take 15 run)))

-- ---- one frame more
module _ (f : Frame) (run : List Frame) where
  -- the phase before, as the stills leave it
  abbrev pub left : ℕ
  left = cond (ltb (min 12 (stills_in_a_row (f ∷ run))) 12) (phase_of run) 5

  locked : ℕ
  locked = locked_by (take 15 (f ∷ run)) f.number

  -- a phase goes on
  phase_on : phase_of run < 5 → still_or_expected (phase_of run) f ≡ true → stills_in_a_row (f ∷ run) < 12 → phase_of (f ∷ run) ≡ phase_of run
  phase_on h fit awake = phase_is (phase_of run) (f ∷ run) h (meets_on (phase_of run) f run fit awake (phase_met run h))

  -- where none goes on, the phase is the one that is locked
  can_lock : Bool
  can_lock = ltb (candidate_of (take 15 (f ∷ run))) 5 && ltb (step_of (candidate_of (take 15 (f ∷ run))) f.number) 2

  locks_here : can_lock ≡ true → phase_of (f ∷ run) ≡ candidate_of (take 15 (f ∷ run))
  unfolding can_lock
  locks_here e =
      let p = candidate_of (take 15 (f ∷ run)) in
      let h = ltb-true p 5 (and_left _ _ e) in
      let lock = locks_of p f run (candidate_agrees (take 15 (f ∷ run)) h) (and_right (ltb p 5) _ e) in
      phase_is p (f ∷ run) h (meets_at_lock p f run lock)

  no_lock : can_lock ≡ false → (p : ℕ) → p < 5 → locks_at p (f ∷ run) ≡ true → ⊥
  unfolding can_lock
  no_lock e p h l =
      let is = candidate_is p (take 15 (f ∷ run)) h (locks_agrees p f run l) in
      clash (rw (is, lt-ltb p 5 h, lt-ltb (step_of p f.number) 2 (locks_step p f run l))) e

  phase_free : ((p : ℕ) → p < 5 → On p f run → ⊥) → phase_of (f ∷ run) ≡ locked
  unfolding locked locked_by can_lock
  phase_free none = ⊎_elim (λ e. locks_here e ∙ rw e) (λ e. no_phase (f ∷ run) (no e) ∙ rw e) (known can_lock)
    where
      no : can_lock ≡ false → (p : ℕ) → p < 5 → meets p (f ∷ run) ≡ false
      no e p h =
          ⊎_elim (λ m. absurd (⊎_elim (λ l. no_lock e p h l) (λ on. none p h on) (meets_cases p f run m))) (λ m. m)
          (known (meets p (f ∷ run)))

  -- what the frame does, by the phase p that is left and the run after it; `since` is the lock frame of the phase before
  pub record Follows (p : ℕ) (after : List Frame) : Type 0 where
    pub window : cond (contradicts p f) [] (take 15 (f ∷ run)) ≡ take 15 after
    pub stills : min 12 (stills_in_a_row (f ∷ run)) ≡ min 12 (stills_in_a_row after)
    pub phase : phase_after (take 15 (f ∷ run)) p f ≡ phase_of after
    pub since : (since : ℕ) → (phase_of run < 5 → since ≡ lock_frame run) → phase_of after < 5
        → cond (ltb p 5) since f.number ≡ lock_frame after

  not_still : (p : ℕ) → still_or_expected p f ≡ false → stills_in_a_row (f ∷ run) ≡ 0
  unfolding still_or_expected
  not_still p e = ⊎_elim (λ s. clash (rw s) e) (λ s. rw s) (known (same_symbol f.symbol Still))

  awake : stills_in_a_row (f ∷ run) < 12 → ltb (min 12 (stills_in_a_row (f ∷ run))) 12 ≡ true
  awake h = lt-ltb (min 12 (stills_in_a_row (f ∷ run))) 12 (omega arith)

  asleep : 12 ≤ stills_in_a_row (f ∷ run) → ltb (min 12 (stills_in_a_row (f ∷ run))) 12 ≡ false
  asleep h = le-ltb (min 12 (stills_in_a_row (f ∷ run))) 12 (omega arith)

  goes : contradicts (phase_of run) f ≡ false → go_on f run ≡ f ∷ run
  unfolding go_on
  goes e = rw e

  stops : contradicts (phase_of run) f ≡ true → go_on f run ≡ []
  unfolding go_on
  stops e = rw e

  agreed : (p : ℕ) → still_or_expected p f ≡ true → contradicts p f ≡ false
  unfolding contradicts
  agreed p fit = rw fit (and_fails (ltb p 5) false refl)

  broken : (p : ℕ) → p < 5 → still_or_expected p f ≡ false → contradicts p f ≡ true
  unfolding contradicts
  broken p h unfit = rw (lt-ltb p 5 h, unfit)

  no_phase_agreed : (p : ℕ) → 5 ≤ p → contradicts p f ≡ false
  unfolding contradicts
  no_phase_agreed p h = rw (le-ltb p 5 h)

  -- the frame is still or expected, and the phase goes on
  follows_on : phase_of run < 5 → still_or_expected (phase_of run) f ≡ true → stills_in_a_row (f ∷ run) < 12 → Follows left (go_on f run)
  unfolding phase_after
  follows_on h fit few =
      let fine = agreed (phase_of run) fit in
      rw (awake few, goes fine)
      (record {
        window = simp fine;
        stills = refl;
        phase = simp (fine, lt-ltb _ _ h, phase_on h fit few);
        since = λ since e k. simp (lt-ltb _ _ h) (e h);
      })

  -- the frame contradicts
  follows_broken : phase_of run < 5 → still_or_expected (phase_of run) f ≡ false → Follows left (go_on f run)
  unfolding phase_after
  follows_broken h unfit =
      let breaks = broken (phase_of run) h unfit in
      rw (awake (omega (arith, not_still (phase_of run) unfit)), stops breaks)
      (record {
        window = simp breaks;
        stills = omega (arith, not_still (phase_of run) unfit);
        phase = simp (breaks, phase_of_none);
        since = λ since e k. absurd (omega (arith, phase_of_none));
      })

  -- the twelfth still: the phase goes, and none is locked
  none_locked : 12 ≤ stills_in_a_row (f ∷ run) → locked ≡ 5
  unfolding locked locked_by candidate_of
  none_locked h = rw (first_none (λ p. agrees p (take 15 (f ∷ run))) 5 (omega arith) (λ p k. too_still p (f ∷ run) h))

  follows_asleep : phase_of run < 5 → still_or_expected (phase_of run) f ≡ true → 12 ≤ stills_in_a_row (f ∷ run) → Follows left (go_on f run)
  unfolding phase_after locked
  follows_asleep h fit many =
      let fine = agreed (phase_of run) fit in
      let free = phase_free (λ p k on. omega (arith, on.awake)) in
      rw (asleep many, goes fine)
      (record {
        window = simp (no_phase_agreed 5 (omega arith));
        stills = refl;
        phase = simp (no_phase_agreed 5 (omega arith), free);
        since = λ since e k. absurd (omega (arith, free, none_locked many));
      })

  -- there was no phase
  nothing_left : (b : Bool) → 5 ≤ phase_of run → 5 ≤ cond b (phase_of run) 5
  nothing_left true h = h
  nothing_left false h = omega arith

  follows_free : 5 ≤ phase_of run → Follows left (go_on f run)
  unfolding phase_after locked
  follows_free h =
      let none = nothing_left (ltb (min 12 (stills_in_a_row (f ∷ run))) 12) h in
      let fine = no_phase_agreed (phase_of run) h in
      let free = phase_free (λ p k on. clash on.before (phase_none run h p k)) in
      rw (goes fine)
      (record {
        window = rw (no_phase_agreed left none);
        stills = refl;
        phase = rw (no_phase_agreed left none, le-ltb left 5 none) (sym free);
        since = λ since e k. rw (le-ltb left 5 none, le-ltb _ _ h);
      })

  pub follows : Follows left (go_on f run)
  follows =
      ⊎_elim
      (λ h.
      ⊎_elim
      (λ fit.
      ⊎_elim (λ few. follows_on (ltb-true _ _ h) fit (ltb-true _ _ few)) (λ many. follows_asleep (ltb-true _ _ h) fit (ltb-false _ _ many))
      (known (ltb (stills_in_a_row (f ∷ run)) 12)))
      (λ unfit. follows_broken (ltb-true _ _ h) unfit)
      (known (still_or_expected (phase_of run) f)))
      (λ h. follows_free (ltb-false _ _ h))
      (known (ltb (phase_of run) 5))
