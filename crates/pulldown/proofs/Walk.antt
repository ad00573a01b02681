-- The walk of `agrees` back through the ring: what was passed, and what is left of the window.
use Prim.Native.Nat.{ℕ, zero, suc, ◌+◌, ◌-◌, ◌%◌, ◌≤◌}
use native.Mathlib.Omega.{arith}
use mathlib.Core.Path.{◌≡◌, refl, ◌∙◌, subst}
use mathlib.Core.List.{List, ◌∷◌}
use mathlib.Core.Bool.{true, false, ◌&&◌}
use lib.ListN.{get_or}
use lib.Dec.{leb}
use Rattle.pulldown.specs.declared.Symbol.{Symbol}
use Rattle.pulldown.specs.declared.Symbol.TheVariants.{Moved, RepeatFirst, RepeatSecond}
use Rattle.pulldown.specs.Symbols.{one_if}
use Rattle.pulldown.specs.Runs.{Frame, frame_of, still_or_expected, every_frame, how_many, agrees}
use Rattle.pulldown.specs.Lock.{symbol_at, window}

-- all the frames of a window, those that are left of it, and what was counted
pub record Walk (p : ℕ) (frames left : List Frame) (firsts seconds moved : ℕ) : Type 0 where
  pub every : every_frame (still_or_expected p) frames ≡ every_frame (still_or_expected p) left
  pub first : how_many RepeatFirst frames ≡ firsts + how_many RepeatFirst left
  pub second : how_many RepeatSecond frames ≡ seconds + how_many RepeatSecond left
  pub move : how_many Moved frames ≡ moved + how_many Moved left

pub begun : (p : ℕ) (frames : List Frame) → Walk p frames frames 0 0 0
begun p frames = record { every = refl; first = omega arith; second = omega arith; move = omega arith }

-- the newest of the frames that are left, which has number n and stands at `at`, and `rest` others
module _ (p : ℕ) (frames : List Frame) (ring : List ℕ) (at n : ℕ) {firsts seconds moved left rest : ℕ} (s : Symbol)
    (e : s ≡ symbol_at (get_or ring at 0)) (more : left ≡ suc rest) (walk : Walk p frames (window ring at n left) firsts seconds moved) where
  ahead : Walk p frames (frame_of n s ∷ window ring ((at + 14) % 15) (n - 1) rest) firsts seconds moved
  ahead = rw e (subst (λ (k : ℕ). Walk p frames (window ring at n k) firsts seconds moved) more walk)

  pub onward :
      still_or_expected p (frame_of n s) ≡ true
      → Walk p frames (window ring ((at + 14) % 15) (n - 1) rest) (firsts + one_if s RepeatFirst) (seconds + one_if s RepeatSecond)
      (moved + one_if s Moved)
  onward fit = record {
    every = ahead.every ∙ rw fit;
    first = omega (arith, ahead.first);
    second = omega (arith, ahead.second);
    move = omega (arith, ahead.move);
  }

  pub stopped : still_or_expected p (frame_of n s) ≡ false → agrees p frames ≡ false
  unfolding agrees
  stopped unfit = simp (ahead.every, unfit)

pub ended : (p : ℕ) (frames : List Frame) (ring : List ℕ) (at n left firsts seconds moved : ℕ) → left ≤ 0
    → Walk p frames (window ring at n left) firsts seconds moved
    → agrees p frames ≡ (leb 2 firsts && leb 2 seconds && leb 4 moved)
unfolding agrees
ended p frames ring at n zero firsts seconds moved h walk =
    let a : how_many RepeatFirst frames ≡ firsts = omega (arith, walk.first) in
    let b : how_many RepeatSecond frames ≡ seconds = omega (arith, walk.second) in
    let c : how_many Moved frames ≡ moved = omega (arith, walk.move) in
    rw (walk.every, a, b, c)
ended p frames ring at n (suc left) firsts seconds moved h walk = absurd (omega arith)
