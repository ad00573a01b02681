-- What a lock holds after a history: the last 15 frames of the run, its stills up to 12, its phase and its lock frame. It is so fresh, and
-- stays so with each frame that is taken.
use Prim.Native.Nat.{ℕ, zero, suc, ◌+◌, ◌-◌, ◌%◌, min, ◌<◌, ◌≤◌}
use native.Mathlib.Omega.{arith}
use mathlib.Core.Path.{◌≡◌, refl, sym, ap, ◌∙◌}
use mathlib.Core.List.{List, [], ◌∷◌}
use mathlib.Core.Bool.{Bool, true, false, cond}
use lib.ListN.{length, take, set, length-set}
use lib.Seq.{get_or-set_same, get_or-set_other, take-take}
use Rattle.pulldown.specs.declared.Symbol.{Symbol}
use Rattle.pulldown.specs.declared.Symbol.TheVariants.{Still, Moved, RepeatFirst, RepeatSecond}
use Rattle.std.proofs.Common.{Option, Some, None}
use Rattle.pulldown.specs.declared.Lock.{Lock}
use Rattle.pulldown.specs.Symbols.{symbol_number, same_symbol}
use Rattle.pulldown.specs.Runs.{Frame, frame_of, stills_in_a_row, phase_of, lock_frame, contradicts, go_on, run_of}
use Rattle.pulldown.specs.Lock.{symbol_at, window, stills_after, place, ring_with, held_with, window_with, phase_left}
use Rattle.pulldown.specs.Lock.{with_symbol, without_symbol, advance_of, fresh_lock}
use Rattle.pulldown.proofs.Phases.{phase_of_none}
use Rattle.pulldown.proofs.Follow.{left, follows}

-- ---- the ring

-- what stands i places before the one that is written, and further back, is as it was
before_written : (ring : List ℕ) (at c i held n : ℕ) → at < 15 → i + held ≤ 14
    → window (set ring at c) ((at + 14 - i) % 15) n held ≡ window ring ((at + 14 - i) % 15) n held
before_written ring at c i zero n h k = refl
before_written ring at c i (suc held) n h k =
    let back : ((at + 14 - i) % 15 + 14) % 15 ≡ (at + 14 - (i + 1)) % 15 = omega arith in
    rw (get_or-set_other ring at ((at + 14 - i) % 15) c 0 (omega arith), back, before_written ring at c (i + 1) held (n - 1) h (omega arith))

take_window : (ring : List ℕ) (at n k held : ℕ) → take k (window ring at n held) ≡ window ring at n (min k held)
take_window ring at n zero held = let e : min 0 held ≡ 0 = omega arith in rw e
take_window ring at n (suc k) zero = let e : min (suc k) 0 ≡ 0 = omega arith in rw e
take_window ring at n (suc k) (suc held) =
    let e : min (suc k) (suc held) ≡ suc (min k held) = omega arith in
    rw (e, take_window ring ((at + 14) % 15) (n - 1) k held)

numbered : (s : Symbol) → symbol_at (symbol_number s) ≡ s
numbered Still = refl
numbered Moved = refl
numbered RepeatFirst = refl
numbered RepeatSecond = refl

-- a symbol that is written comes before the others, and the sixteenth goes
window_written : (ring : List ℕ) (at n held : ℕ) (s : Symbol) → length ring ≡ 15 → at < 15
    → window (set ring at (symbol_number s)) at n (min 15 (held + 1)) ≡ take 15 (frame_of n s ∷ window ring ((at + 14) % 15) (n - 1) held)
window_written ring at n held s long h =
    let e : min 15 (held + 1) ≡ suc (min 14 held) = omega arith in
    let back : (at + 14) % 15 ≡ (at + 14 - 0) % 15 = omega arith in
    let same = before_written ring at (symbol_number s) 0 (min 14 held) (n - 1) h (omega arith) in
    rw (e, get_or-set_same ring at (symbol_number s) 0 (omega arith), numbered s, take_window ring ((at + 14) % 15) (n - 1) 14 held)
    (ap (λ (frames : List Frame). frame_of n s ∷ frames) (rw back same))

-- a window of which nothing is held, or all
held_or_not : (ring : List ℕ) (at n held : ℕ) (b : Bool) → window ring at n (cond b 0 held) ≡ cond b [] (window ring at n held)
held_or_not ring at n held true = refl
held_or_not ring at n held false = refl

-- ---- what a lock holds

-- the frames that a lock holds
abbrev pub window_of : Lock → List Frame
window_of l = window l.ring ((l.course.next + 14) % 15) (l.course.taken - 1) l.course.held

pub record Holds (l : Lock) (seens : List (Option Symbol)) : Type 0 where
  pub long : length l.ring ≡ 15
  pub next : l.course.next < 15
  pub taken : l.course.taken ≡ length seens
  pub frames : window_of l ≡ take 15 (run_of seens)
  pub stills : l.course.stills ≡ min 12 (stills_in_a_row (run_of seens))
  pub phase : l.course.phase ≡ phase_of (run_of seens)
  pub since : phase_of (run_of seens) < 5 → l.course.since ≡ lock_frame (run_of seens)

pub holds_fresh : Holds fresh_lock []
holds_fresh = record {
  long = refl;
  next = omega arith;
  taken = refl;
  frames = refl;
  stills = refl;
  phase = sym phase_of_none;
  since = λ h. absurd (omega (arith, phase_of_none));
}

holds_without : (l : Lock) (seens : List (Option Symbol)) → Holds l seens → Holds (without_symbol l) (None ∷ seens)
holds_without l seens h = record {
  long = h.long;
  next = h.next;
  taken = omega (arith, h.taken);
  frames = refl;
  stills = refl;
  phase = sym phase_of_none;
  since = λ k. absurd (omega (arith, phase_of_none));
}

-- ---- a symbol more
module _ (l : Lock) (s : Symbol) (seens : List (Option Symbol)) (h : Holds l seens) where
  abbrev run : List Frame
  run = run_of seens

  abbrev f : Frame
  f = frame_of (length seens) s

  stills_with : stills_after l.course.stills s ≡ min 12 (stills_in_a_row (f ∷ run))
  stills_with = rw h.stills (go (same_symbol s Still))
    where
      go : (b : Bool) → cond b (min 12 (min 12 (stills_in_a_row run) + 1)) 0 ≡ min 12 (cond b (suc (stills_in_a_row run)) 0)
      go true = omega arith
      go false = omega arith

  left_is : phase_left l s ≡ left f run
  left_is = rw (stills_with, h.phase)

  frames_with : window_with l s ≡ take 15 (f ∷ run)
  frames_with =
      let at : place l ≡ l.course.next = omega (arith, h.next) in
      let wrote = window_written l.ring l.course.next l.course.taken l.course.held s h.long h.next in
      rw (at, wrote, h.frames, h.taken, take-take 14 15 run (omega arith))

  frames_after : window_of (with_symbol l s) ≡ take 15 (go_on f run)
  frames_after =
      let back : ((place l + 1) % 15 + 14) % 15 ≡ place l = omega arith in
      let number : l.course.taken + 1 - 1 ≡ l.course.taken = omega arith in
      let cut = held_or_not (ring_with l s) (place l) l.course.taken (held_with l) (contradicts (phase_left l s) (frame_of l.course.taken s)) in
      rw (back, number, cut, frames_with, left_is, h.taken) (follows f run).window

  phase_is : (with_symbol l s).course.phase ≡ phase_of (go_on f run)
  phase_is = rw (frames_with, left_is, h.taken) (follows f run).phase

  since_is : phase_of (go_on f run) < 5 → (with_symbol l s).course.since ≡ lock_frame (go_on f run)
  since_is k = rw (left_is, h.taken) ((follows f run).since l.course.since h.since k)

  holds_with : Holds (with_symbol l s) (Some s ∷ seens)
  holds_with = record {
    long = length-set l.ring (place l) (symbol_number s) ∙ h.long;
    next = omega arith;
    taken = omega (arith, h.taken);
    frames = frames_after;
    stills = stills_with ∙ (follows f run).stills;
    phase = phase_is;
    since = since_is;
  }

-- ---- a frame more
pub holds_next : (l : Lock) (s : Option Symbol) (seens : List (Option Symbol)) → Holds l seens → Holds (advance_of l s) (s ∷ seens)
unfolding advance_of
holds_next l None seens h = holds_without l seens h
holds_next l (Some s) seens h = holds_with l s seens h
