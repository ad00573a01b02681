-- Laws of phases, from the frames alone: the four tests and the test that can be run are one (`meets_of`, `meets_from`); a run meets one
-- phase at most (`one_phase`), since only step 2 expects that the first field repeats; that one is the run's phase (`phase_is`); and a
-- phase that is met after another was met is the same (`met_before`).
use Prim.Native.Nat.{ℕ, zero, suc, ◌+◌, ◌<◌, ◌≤◌, suc-le-suc}
use native.Mathlib.Omega.{arith}
use mathlib.Core.Path.{◌≡◌, refl, sym, ap, ◌∙◌, subst}
use mathlib.Core.Logic.{◌⊎◌, inl, inr, ⊎_elim}
use mathlib.Core.List.{List, [], ◌∷◌, ◌++◌}
use mathlib.Core.Bool.{Bool, true, false, cond, ◌&&◌}
use lib.ListN.{length, take, drop}
use lib.Dec.{ltb, leb}
use borrow.Author.Tests.{ltb-true, leb-true, eqb-true, lt-ltb, le-leb}
use Rattle.pulldown.specs.declared.Symbol.TheVariants.{Moved, RepeatFirst, RepeatSecond}
use Rattle.pulldown.specs.Symbols.{symbol_number, same_symbol}
use Rattle.pulldown.specs.Table.{expected_at}
use Rattle.pulldown.specs.Runs.{Frame, step_of, still_or_expected, every_frame, how_many, stills_in_a_row}
use Rattle.pulldown.specs.Runs.{Meets, agrees, locks_at, meets, first_phase, phase_of}
use Rattle.laws.proofs.Bools.{known, clash, and_left, and_right, and_both, or_cases, or_right}
use Rattle.pulldown.proofs.FirstPhase.{found, first_is, first_none}

-- ---- a window that agrees
pub record Agrees (p : ℕ) (window : List Frame) : Type 0 where
  pub every : every_frame (still_or_expected p) window ≡ true
  pub firsts : 2 ≤ how_many RepeatFirst window
  pub seconds : 2 ≤ how_many RepeatSecond window
  pub moved : 4 ≤ how_many Moved window

pub agrees_from : (p : ℕ) (window : List Frame) → agrees p window ≡ true → Agrees p window
unfolding agrees
agrees_from p window e =
    let enough = and_right (every_frame (still_or_expected p) window) _ e in
    let repeats = and_left (leb 2 (how_many RepeatFirst window) && leb 2 (how_many RepeatSecond window)) _ enough in
    record {
      every = and_left _ _ e;
      firsts = leb-true _ _ (and_left _ _ repeats);
      seconds = leb-true _ _ (and_right (leb 2 (how_many RepeatFirst window)) _ repeats);
      moved = leb-true _ _ (and_right (leb 2 (how_many RepeatFirst window) && leb 2 (how_many RepeatSecond window)) _ enough);
    }

agrees_of : (p : ℕ) (window : List Frame) → Agrees p window → agrees p window ≡ true
unfolding agrees
agrees_of p window a = simp (a.every, le-leb _ _ a.firsts, le-leb _ _ a.seconds, le-leb _ _ a.moved)

-- ---- the test that can be run, by its parts
module _ (p : ℕ) (f : Frame) (earlier : List Frame) where
  pub locks_of : agrees p (take 15 (f ∷ earlier)) ≡ true → ltb (step_of p f.number) 2 ≡ true → locks_at p (f ∷ earlier) ≡ true
  unfolding locks_at
  locks_of a b = rw (a, b)

  pub locks_agrees : locks_at p (f ∷ earlier) ≡ true → agrees p (take 15 (f ∷ earlier)) ≡ true
  unfolding locks_at
  locks_agrees e = and_left _ _ e

  pub locks_step : locks_at p (f ∷ earlier) ≡ true → step_of p f.number < 2
  unfolding locks_at
  locks_step e = ltb-true _ _ (and_right (agrees p (take 15 (f ∷ earlier))) _ e)

  pub meets_at_lock : locks_at p (f ∷ earlier) ≡ true → meets p (f ∷ earlier) ≡ true
  unfolding meets
  meets_at_lock e = rw e

  pub meets_on : still_or_expected p f ≡ true → stills_in_a_row (f ∷ earlier) < 12 → meets p earlier ≡ true → meets p (f ∷ earlier) ≡ true
  unfolding meets
  meets_on a b m = or_right (locks_at p (f ∷ earlier)) _ (simp (a, lt-ltb _ _ b, m))

  -- a phase that is met is locked here, or was met before
  pub record On : Type 0 where
    pub expected : still_or_expected p f ≡ true
    pub awake : stills_in_a_row (f ∷ earlier) < 12
    pub before : meets p earlier ≡ true

  pub meets_cases : meets p (f ∷ earlier) ≡ true → (locks_at p (f ∷ earlier) ≡ true) ⊎ On
  unfolding meets
  meets_cases e = ⊎_elim (λ l. inl l) (λ r. inr (on r)) (or_cases (locks_at p (f ∷ earlier)) _ e)
    where
      on : still_or_expected p f && ltb (stills_in_a_row (f ∷ earlier)) 12 && meets p earlier ≡ true → On
      on r =
          let both = and_left _ (meets p earlier) r in
          record {
            expected = and_left _ _ both;
            awake = ltb-true _ _ (and_right (still_or_expected p f) _ both);
            before = and_right (still_or_expected p f && ltb (stills_in_a_row (f ∷ earlier)) 12) _ r;
          }

pub none_met : (p : ℕ) → meets p [] ≡ true → ⊥
unfolding meets
none_met p e = clash e refl

-- ---- the four tests
meets_of_parts : (p : ℕ) (m : Frame) (earlier later run : List Frame) → run ≡ later ++ (m ∷ earlier)
    → locks_at p (m ∷ earlier) ≡ true → every_frame (still_or_expected p) later ≡ true
    → ((k : ℕ) → k < length later → stills_in_a_row (drop k run) < 12) → meets p run ≡ true
meets_of_parts p m earlier [] run e lock fit awake = rw e (meets_at_lock p m earlier lock)
meets_of_parts p m earlier (f ∷ later) run e lock fit awake =
    rw e
    (meets_on p f (later ++ (m ∷ earlier)) (and_left _ _ fit) (rw e at (awake 0 (omega arith)))
    (meets_of_parts p m earlier later _ refl lock (and_right (still_or_expected p f) _ fit) (λ k h. rw e at (awake (suc k) (suc-le-suc h)))))

pub meets_of : (p : ℕ) (run : List Frame) → Meets p run → meets p run ≡ true
meets_of p run r =
    let window = take 15 (r.m ∷ r.earlier) in
    let agree = agrees_of p window (record { every = r.window; firsts = r.firsts; seconds = r.seconds; moved = r.moved }) in
    let lock = locks_of p r.m r.earlier agree (lt-ltb _ _ r.head) in
    meets_of_parts p r.m r.earlier r.later run r.in_run lock r.expected r.awake

at_lock : (p : ℕ) (m : Frame) (earlier : List Frame) → locks_at p (m ∷ earlier) ≡ true → Meets p (m ∷ earlier)
at_lock p m earlier e =
    let a = agrees_from p (take 15 (m ∷ earlier)) (locks_agrees p m earlier e) in
    record {
      m = m;
      earlier = earlier;
      later = [];
      in_run = refl;
      window = a.every;
      firsts = a.firsts;
      seconds = a.seconds;
      moved = a.moved;
      head = locks_step p m earlier e;
      expected = refl;
      awake = λ k h. absurd (omega arith);
    }

one_later : (p : ℕ) (f : Frame) (earlier : List Frame) → still_or_expected p f ≡ true → stills_in_a_row (f ∷ earlier) < 12 → Meets p earlier
    → Meets p (f ∷ earlier)
one_later p f earlier fit few r =
    record {
      m = r.m;
      earlier = r.earlier;
      later = f ∷ r.later;
      in_run = ap (λ (frames : List Frame). f ∷ frames) r.in_run;
      window = r.window;
      firsts = r.firsts;
      seconds = r.seconds;
      moved = r.moved;
      head = r.head;
      expected = and_both _ _ fit r.expected;
      awake = up;
    }
  where
    up : (k : ℕ) → k < suc (length r.later) → stills_in_a_row (drop k (f ∷ earlier)) < 12
    up zero h = few
    up (suc k) h = r.awake k (omega arith)

pub meets_from : (p : ℕ) (run : List Frame) → meets p run ≡ true → Meets p run
meets_from p [] e = absurd (none_met p e)
meets_from p (f ∷ earlier) e =
    ⊎_elim (λ l. at_lock p f earlier l) (λ on. one_later p f earlier on.expected on.awake (meets_from p earlier on.before))
    (meets_cases p f earlier e)

-- ---- one phase

-- the last 15 frames fit a phase that is met
every_fewer : (passes : Frame → Bool) (k m : ℕ) (frames : List Frame) → k ≤ m
    → every_frame passes (take m frames) ≡ true → every_frame passes (take k frames) ≡ true
every_fewer passes zero m frames h e = refl
every_fewer passes (suc k) zero frames h e = absurd (omega arith)
every_fewer passes (suc k) (suc m) [] h e = refl
every_fewer passes (suc k) (suc m) (f ∷ frames) h e =
    and_both (passes f) _ (and_left _ _ e) (every_fewer passes k m frames (omega arith) (and_right (passes f) _ e))

meets_every : (p : ℕ) (run : List Frame) → meets p run ≡ true → every_frame (still_or_expected p) (take 15 run) ≡ true
meets_every p [] e = refl
meets_every p (f ∷ earlier) e =
    ⊎_elim (λ l. (agrees_from p _ (locks_agrees p f earlier l)).every)
    (λ on.
    let before = every_fewer (still_or_expected p) 14 15 earlier (omega arith) (meets_every p earlier on.before) in
    and_both (still_or_expected p f) _ on.expected before)
    (meets_cases p f earlier e)

-- only step 2 expects that the first field repeats
only_step_two : (step : ℕ) → step < 5 → symbol_number (expected_at step) ≡ 2 → step ≡ 2
only_step_two zero h e = absurd (omega arith)
only_step_two (suc zero) h e = absurd (omega arith)
only_step_two (suc (suc zero)) h e = refl
only_step_two (suc (suc (suc zero))) h e = absurd (omega arith)
only_step_two (suc (suc (suc (suc zero)))) h e = absurd (omega arith)
only_step_two (suc (suc (suc (suc (suc step))))) h e = absurd (omega arith)

first_repeat : (p : ℕ) (f : Frame) → symbol_number f.symbol ≡ 2 → still_or_expected p f ≡ true → step_of p f.number ≡ 2
unfolding still_or_expected
first_repeat p f e fit =
    ⊎_elim (λ q. let z = eqb-true (symbol_number f.symbol) 0 q in absurd (omega arith))
    (λ q. let z = eqb-true (symbol_number f.symbol) _ q in only_step_two (step_of p f.number) (omega arith) (sym z ∙ e))
    (or_cases _ _ fit)

-- so two phases that fit the same frames, with a first-field repeat among them, are one
pub same_phase : (p q : ℕ) (frames : List Frame) → p < 5 → q < 5
    → every_frame (still_or_expected p) frames ≡ true → every_frame (still_or_expected q) frames ≡ true
    → 1 ≤ how_many RepeatFirst frames → p ≡ q
same_phase p q [] hp hq a b n = absurd (omega arith)
same_phase p q (f ∷ frames) hp hq a b n =
    ⊎_elim
    (λ e.
    let u = first_repeat p f (eqb-true _ _ e) (and_left _ _ a) in
    let v = first_repeat q f (eqb-true _ _ e) (and_left _ _ b) in
    omega arith)
    (λ e. same_phase p q frames hp hq (and_right (still_or_expected p f) _ a) (and_right (still_or_expected q f) _ b) (omega (arith, rw e at n)))
    (known (same_symbol f.symbol RepeatFirst))

-- one that is locked here, and one that is met here
lock_and_met : (p q : ℕ) (f : Frame) (earlier : List Frame) → p < 5 → q < 5
    → locks_at p (f ∷ earlier) ≡ true → meets q (f ∷ earlier) ≡ true → p ≡ q
lock_and_met p q f earlier hp hq l m =
    let a = agrees_from p (take 15 (f ∷ earlier)) (locks_agrees p f earlier l) in
    same_phase p q (take 15 (f ∷ earlier)) hp hq a.every (meets_every q (f ∷ earlier) m) (omega (arith, a.firsts))

pub one_phase : (p q : ℕ) (run : List Frame) → p < 5 → q < 5 → meets p run ≡ true → meets q run ≡ true → p ≡ q
one_phase p q [] hp hq a b = absurd (none_met p a)
one_phase p q (f ∷ earlier) hp hq a b =
    ⊎_elim (λ l. lock_and_met p q f earlier hp hq l b)
    (λ on.
    ⊎_elim (λ l. sym (lock_and_met q p f earlier hq hp l a)) (λ also. one_phase p q earlier hp hq on.before also.before)
    (meets_cases q f earlier b))
    (meets_cases p f earlier a)

-- ---- the phase of a run
pub phase_is : (p : ℕ) (run : List Frame) → p < 5 → meets p run ≡ true → phase_of run ≡ p
unfolding phase_of
phase_is p run h m = first_is (λ q. meets q run) p h m (λ q k n. one_phase q p run k h n m)

pub phase_met : (run : List Frame) → phase_of run < 5 → meets (phase_of run) run ≡ true
unfolding phase_of
phase_met run h = ⊎_elim (λ f. f.1) (λ n. absurd (omega arith)) (found (λ p. meets p run))

pub phase_none : (run : List Frame) → 5 ≤ phase_of run → (p : ℕ) → p < 5 → meets p run ≡ false
unfolding phase_of
phase_none run h p k = ⊎_elim (λ f. absurd (omega arith)) (λ n. n.1 p k) (found (λ p. meets p run))

pub no_phase : (run : List Frame) → ((p : ℕ) → p < 5 → meets p run ≡ false) → phase_of run ≡ 5
unfolding phase_of
no_phase run none = first_none (λ p. meets p run) 5 (omega arith) none

pub phase_of_none : phase_of [] ≡ 5
unfolding phase_of meets first_phase
phase_of_none = refl

-- ---- a phase that was met before

-- what could be locked now is that phase: 14 of the 15 frames are the same, and one first-field repeat at least is among them
first_left : (b : Bool) (n : ℕ) → 2 ≤ cond b 1 0 + n → 1 ≤ n
first_left true n h = omega arith
first_left false n h = omega arith

locked_again : (p : ℕ) (f : Frame) (earlier : List Frame) → p < 5 → locks_at p (f ∷ earlier) ≡ true → phase_of earlier < 5
    → phase_of earlier ≡ p
locked_again p f earlier h l k =
    let a = agrees_from p (take 15 (f ∷ earlier)) (locks_agrees p f earlier l) in
    let q = phase_of earlier in
    let every = every_fewer (still_or_expected q) 14 15 earlier (omega arith) (meets_every q earlier (phase_met earlier k)) in
    same_phase q p (take 14 earlier) k h every (and_right (still_or_expected p f) _ a.every)
    (first_left (same_symbol f.symbol RepeatFirst) (how_many RepeatFirst (take 14 earlier)) a.firsts)

pub met_before : (p : ℕ) (f : Frame) (earlier : List Frame) → p < 5 → meets p (f ∷ earlier) ≡ true → phase_of earlier < 5
    → meets p earlier ≡ true
met_before p f earlier h m k =
    ⊎_elim (λ l. subst (λ (q : ℕ). meets q earlier ≡ true) (locked_again p f earlier h l k) (phase_met earlier k)) (λ on. on.before)
    (meets_cases p f earlier m)
