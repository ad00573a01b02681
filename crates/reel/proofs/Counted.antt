-- A frame that is taken is counted, and while frames are taken no total comes near the largest number that its place holds: each is at most
-- the number of frames, which stays below 4,000,000,000. So the machine's totals are those of the definition.
use Prim.Native.Nat.{ℕ, ◌+◌, ◌≤◌, ◌<◌}
use native.Mathlib.Omega.{arith}
use mathlib.Core.Path.{◌≡◌}
use Rattle.field.specs.declared.Cadence.{Cadence}
use Rattle.field.specs.declared.Cadence.TheVariants.{None, Whole, Drop, Spanning}
use Rattle.pulldown.proofs.Claims.{one_taken}
use Rattle.telecine.specs.declared.Detector.{Detector}
use Rattle.telecine.specs.History.{State, Push, picture, measured, push, number_in, next}
use Rattle.telecine.proofs.Reached.{few_taken}
use Rattle.reel.specs.declared.Tally.{Tally}
use Rattle.reel.specs.Reel.{tallied}
use Rattle.reel.specs.Machine.{one_more, tallied_in}

-- ---- a frame that is taken
pub counted : (state : State) (u : Push) → number_in state u ≡ 0
    → ((next state (push u)).detector.lock.course.taken ≡ state.detector.lock.course.taken + 1) × (state.detector.lock.course.taken < 4000000000)
counted state (picture plane s first) e = (rw e (one_taken state.detector.lock _), few_taken state (picture plane s first) e)
counted state (measured first m) e = (rw e (one_taken state.detector.lock _), few_taken state (measured first m) e)

-- ---- totals
pub record Sound (d : Detector) (t : Tally) : Type 0 where
  pub wholes : t.whole ≤ d.lock.course.taken
  pub drops : t.drop ≤ d.lock.course.taken
  pub spannings : t.spanning ≤ d.lock.course.taken
  pub nones : t.none ≤ d.lock.course.taken

plain : (n m : ℕ) → n ≤ m → m < 4000000000 → one_more n ≡ n + 1
plain n m h k = omega arith

pub same_tally : (c : Cadence) (d : Detector) (t : Tally) → Sound d t → d.lock.course.taken < 4000000000 → tallied_in c t ≡ tallied c t
same_tally Whole d t s h = rw (plain t.whole d.lock.course.taken s.wholes h)
same_tally Drop d t s h = rw (plain t.drop d.lock.course.taken s.drops h)
same_tally Spanning d t s h = rw (plain t.spanning d.lock.course.taken s.spannings h)
same_tally None d t s h = rw (plain t.none d.lock.course.taken s.nones h)

pub still_sound : (c : Cadence) (d after : Detector) (t : Tally) → Sound d t → after.lock.course.taken ≡ d.lock.course.taken + 1 → Sound after (tallied c t)
still_sound Whole d after t s h = record { wholes = omega arith; drops = omega arith; spannings = omega arith; nones = omega arith }
still_sound Drop d after t s h = record { wholes = omega arith; drops = omega arith; spannings = omega arith; nones = omega arith }
still_sound Spanning d after t s h = record { wholes = omega arith; drops = omega arith; spannings = omega arith; nones = omega arith }
still_sound None d after t s h = record { wholes = omega arith; drops = omega arith; spannings = omega arith; nones = omega arith }
