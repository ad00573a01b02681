-- That the numbers of a fresh detector fit their places in the state, and that a frame which is taken keeps them there.
use Prim.Native.Nat.{ℕ, ◌+◌, ◌<◌, ◌^◌, min}
use mathlib.Core.Path.{◌≡◌, refl}
use mathlib.Core.Bool.{Bool, true, false, cond, ◌&&◌}
use mathlib.Core.List.{List}
use native.Mathlib.Nat.{mod-lt, lt_trans}
use native.Mathlib.Decide.{ℕ_discrete}
use native.Mathlib.Omega.{arith}
use borrow.Author.Tests.{ltb-true, eqb-true}
use Rattle.std.specs.Prelude.{Option, Some, None}
use lib.Dec.{ltb, eqb, lit<}
use lib.ListN.{length, get_or, set, get_or-replicate}
use lib.Seq.{get_or-set_same, get_or-set_other}
use Rattle.laws.specs.Refusal.{written}
use Rattle.field.specs.declared.Parity.{Parity}
use Rattle.pulldown.specs.declared.Symbol.TheVariants.{Still, Moved, RepeatFirst, RepeatSecond}
use Rattle.pulldown.specs.declared.Symbol.{Symbol}
use Rattle.pulldown.specs.Symbols.{symbol_number, same_symbol}
use Rattle.pulldown.specs.Runs.{Frame, frame_of, step_of, contradicts}
use Rattle.pulldown.specs.Lock.{candidate_of, locked_by, phase_after, stills_after, place, held_with, window_with, phase_left, fresh_lock, advance_of}
use Rattle.telecine.specs.declared.Detector.{Detector}
use Rattle.telecine.specs.declared.Kept.{Kept}
use Rattle.telecine.specs.Detector.{nothing_kept}
use Rattle.filmdesk.specs.Claims.{Sized}
use Rattle.filmdesk.proofs.Kept.{advanced_ring}

-- ---- one of two numbers
either_below : (k : ℕ) (b : Bool) (x y : ℕ) → x < k → y < k → cond b x y < k
either_below k true x y p q = p
either_below k false x y p q = q

min_below : (k a b : ℕ) → a < k → min a b < k
min_below k a b h = omega arith

-- ---- what a symbol makes of a lock
symbol_below : (s : Symbol) → symbol_number s < 256
symbol_below Still = lit< tt
symbol_below Moved = lit< tt
symbol_below RepeatFirst = lit< tt
symbol_below RepeatSecond = lit< tt

set_below : (ring : List ℕ) (at v : ℕ) → at < length ring → v < 256 → (i : ℕ) → get_or ring i 0 < 256 → get_or (set ring at v) i 0 < 256
set_below ring at v inside small i old = here (ℕ_discrete i at)
  where
    here : Dec (i ≡ at) → get_or (set ring at v) i 0 < 256
    here (yes q) = rw (q, get_or-set_same ring at v 0 inside) small
    here (no q) = rw (get_or-set_other ring at i v 0 q) old

locked_below : (frames : List Frame) (n : ℕ) → locked_by frames n < 256
unfolding locked_by
locked_below frames n = by_test (candidate_of frames) (ltb (candidate_of frames) 5) (ltb (step_of (candidate_of frames) n) 2) refl
  where
    by_test : (c : ℕ) (small head : Bool) → ltb c 5 ≡ small → cond (small && head) c 5 < 256
    by_test c true true e = lt_trans (ltb-true c 5 e) (lit< tt)
    by_test c true false e = lit< tt
    by_test c false head e = lit< tt

phase_below : (frames : List Frame) (p : ℕ) (f : Frame) → p < 256 → phase_after frames p f < 256
unfolding phase_after
phase_below frames p f h = either_below 256 (contradicts p f) _ _ (lit< tt) (either_below 256 (ltb p 5) _ _ h (locked_below frames f.number))

-- ---- a frame that is taken keeps the sizes
one_more : (n : ℕ) → n < 4000000000 → n + 1 < 2 ^ 64
one_more n h = lt_trans (next_below n h) (lit< tt)
  where
    next_below : (n : ℕ) → n < 4000000000 → n + 1 < 4000000001
    next_below n h = omega arith

pub advanced_sized :
    (d : Detector) (s : Option Symbol) (kept : Kept) (last : Option Parity) → Sized d → d.lock.course.taken < 4000000000 → kept.width < 65536 → kept.height < 65536 →
    Sized (record { lock = advance_of d.lock s; kept = kept; last = last })
unfolding advance_of
advanced_sized d None kept last z few width height = record {
  ring = z.ring;
  symbols = z.symbols;
  next = z.next;
  held = lit< tt;
  taken = one_more d.lock.course.taken few;
  phase = lit< tt;
  since = z.since;
  stills = lit< tt;
  width = width;
  height = height;
}
advanced_sized d (Some s) kept last z few width height =
    let l = d.lock in
    let left = phase_left l s in
    let frame = frame_of l.course.taken s in
    record {
      ring = advanced_ring l (Some s) z.ring;
      symbols = λ i below. set_below l.ring (place l) (symbol_number s) (rw z.ring (mod-lt l.course.next (lit< tt))) (symbol_below s) i (z.symbols i below);
      next = lt_trans (mod-lt (place l + 1) (lit< tt)) (lit< tt);
      held = either_below (2 ^ 64) (contradicts left frame) 0 (held_with l) (lit< tt) (min_below (2 ^ 64) 15 (l.course.held + 1) (lit< tt));
      taken = one_more l.course.taken few;
      phase = phase_below (window_with l s) left frame (either_below 256 (ltb (stills_after l.course.stills s) 12) l.course.phase 5 z.phase (lit< tt));
      since = either_below (2 ^ 64) (ltb left 5) l.course.since l.course.taken z.since z.taken;
      stills = either_below (2 ^ 64) (same_symbol s Still) (min 12 (l.course.stills + 1)) 0 (min_below (2 ^ 64) 12 (l.course.stills + 1) (lit< tt)) (lit< tt);
      width = width;
      height = height;
    }

-- ---- what the claims end with
pub fresh_with : (last : Option Parity) → Sized (record { lock = fresh_lock; kept = nothing_kept; last = last })
fresh_with last = record {
  ring = refl;
  symbols = λ i below. rw (get_or-replicate {A = ℕ} 15 i 0 0 below) (lit< tt);
  next = lit< tt;
  held = lit< tt;
  taken = lit< tt;
  phase = lit< tt;
  since = lit< tt;
  stills = lit< tt;
  width = lit< tt;
  height = lit< tt;
}

-- a refused call leaves the detector
pub written_sized : (n : ℕ) (new old : Detector) → Sized old → (n ≡ 0 → Sized new) → Sized (written n new old)
written_sized n new old z made = by_test (eqb n 0) refl
  where
    by_test : (b : Bool) → eqb n 0 ≡ b → Sized (cond b new old)
    by_test true e = made (eqb-true n 0 e)
    by_test false e = z
