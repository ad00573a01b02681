-- What is made of a detector's answer is what Machine says of the push.
use Prim.Native.Nat.{ℕ, ◌-◌, ◌≤◌, ◌<◌}
use mathlib.Core.Path.{◌≡◌, refl, ap, ◌∙◌}
use mathlib.Core.Bool.{true, false, cond}
use Rattle.std.specs.Prelude.{Option, Some, None, Result, Ok, Err}
use mathlib.Core.List.{List, []}
use native.Mathlib.Omega.{arith}
use lib.Dec.{eqb}
use lib.ListN.{length}
use borrow.Author.Tests.{le-leb, lt-leb}
use Rattle.laws.specs.Refusal.{lowest, when_done}
use Rattle.laws.proofs.Refusal.{done_equal}
use Rattle.field.specs.declared.Cadence.{Cadence}
use Rattle.field.specs.declared.Parity.{Parity}
use Rattle.field.specs.Field.{parity_named}
use Rattle.refusal.specs.declared.Refusal.{Refusal}
use Rattle.refusal.specs.declared.Refusal.TheVariants as refusal
use Rattle.refusal.specs.Refusal.{number_of, no_of, values_of}
use Rattle.plane.specs.Plane.{good_shape, grid_shape}
use Rattle.pulldown.specs.Lock.{locked_of}
use Rattle.telecine.specs.declared.Detector.{Detector}
use Rattle.telecine.specs.declared.Pushed.{Pushed}
use Rattle.telecine.specs.declared.Measured.{Measured}
use Rattle.telecine.specs.Detector.{measured_no, measured_cadence, measured_detector, push_no, push_values, push_detector, push_store}
use Rattle.telecine.specs.History.{Push, picture, measured, push, number_in, cadence_in, next}
use Rattle.entry.specs.declared.Entry.{Entry}
use Rattle.entry.specs.Entry.{entry_of, good_entry, measured_in}
use Rattle.reel.specs.declared.Said.TheVariants.{Frame, Fault}
use Rattle.reel.specs.declared.Pictured.{Pictured}
use Rattle.reel.specs.declared.Stage.{Stage}
use Rattle.reel.specs.declared.Stage.TheVariants.{Entries, Pictures}
use Rattle.reel.specs.declared.Reel.{Reel}
use Rattle.reel.specs.declared.Next.{Next}
use Rattle.reel.specs.Reel.{picture_bytes}
use Rattle.reel.specs.Machine.{reel_of, close, tallied_in, state_of, pushed_of, entry_unit_of, picture_unit_of, picture_store}
use Rattle.reel.specs.Inner.{answered_as, pushed_as}

-- ---- a refusal and its number

some_number : (why : Refusal) → eqb (number_of why) 0 ≡ false
some_number refusal.PlaneCount = refl
some_number refusal.OnlyLuma = refl
some_number refusal.Outside = refl
some_number refusal.Shape = refl
some_number refusal.Differ = refl
some_number refusal.ShortInput = refl
some_number refusal.ShortOutput = refl
some_number refusal.Colour = refl
some_number refusal.TooManyFrames = refl
some_number refusal.TooFarAhead = refl

-- what a number leads to: on where it is 0, and else the file is closed
abbrev pub decided : Reel → ℕ → Next → Next
decided r n more = cond (eqb n 0) more (close r (Fault n))

pub goes_on : (r : Reel) (more : Next) {n : ℕ} → 0 ≡ n → more ≡ decided r n more
goes_on r more e = rw (← e)

pub closes : (r : Reel) (more : Next) (why : Refusal) {n : ℕ} → number_of why ≡ n → close r (Fault (number_of why)) ≡ decided r n more
closes r more why e = rw (← e, some_number why)

module _ (r : Reel) (stage : Stage) (after : Detector) (n : ℕ) (cadence : Cadence) where
  abbrev frame : Next
  frame = record {
    reel = reel_of stage r.pictured after (tallied_in cadence r.tally);
    said = Frame r.detector.lock.course.taken cadence (locked_of after.lock);
  }

  -- what a push that gets the number n, and at 0 this cadence, leads to
  answered : (a : Result Cadence Refusal) → no_of a ≡ n → values_of a ≡ when_done n cadence → answered_as r stage after a ≡ decided r n frame
  answered (Ok c) e v =
      let same : c ≡ cadence = done_equal cadence e v in
      rw same (goes_on r frame e)
  answered (Err why) e v = closes r frame why e

-- the two pushes promise this of what they hand back
push_leads : (r : Reel) (stage : Stage) (store : List ℕ) (u : Push) (p : Pushed)
    → p.detector ≡ (next (state_of r store) (push u)).detector
    → no_of p.answer ≡ number_in (state_of r store) u
    → values_of p.answer ≡ when_done (number_in (state_of r store) u) (cadence_in (state_of r store) u)
    → pushed_as r stage p ≡ pushed_of r stage store u
unfolding pushed_as pushed_of
push_leads r stage store u p d e v =
    ap (λ (after : Detector). answered_as r stage after p.answer) d
    ∙ answered r stage (next (state_of r store) (push u)).detector (number_in (state_of r store) u) (cadence_in (state_of r store) u) p.answer e v

-- a picture that was read whole
pub picture_leads : (r : Reel) (n : ℕ) (store u : List ℕ) (shown : Pictured) (p : Pushed) → r.pictured ≡ Some shown → picture_bytes r.pictured ≤ length u
    → p.detector ≡ push_detector r.detector store u (grid_shape shown.shape) shown.first
    → no_of p.answer ≡ push_no r.detector (grid_shape shown.shape) (length u) (length store)
    → values_of p.answer ≡ push_values r.detector store u (grid_shape shown.shape) shown.first
    → pushed_as r (Pictures (n - 1)) p ≡ picture_unit_of r n store u
unfolding picture_unit_of
picture_leads r n store u shown p given long d e v =
    push_leads r (Pictures (n - 1)) store (picture u (grid_shape shown.shape) shown.first) p d e v ∙ rw (le-leb _ _ long, given)

pub picture_kept : (r : Reel) (store u new : List ℕ) (shown : Pictured) → r.pictured ≡ Some shown → picture_bytes r.pictured ≤ length u
    → new ≡ push_store r.detector store u (grid_shape shown.shape) → new ≡ picture_store r store u
unfolding picture_store
picture_kept r store u new shown given long e = e ∙ rw (le-leb _ _ long, given)

-- one that was not
pub short_closes : (r : Reel) (n : ℕ) (store u : List ℕ) → length u < picture_bytes r.pictured
    → close r (Fault 6) ≡ picture_unit_of r n store u
unfolding picture_unit_of
short_closes r n store u short = rw (lt-leb _ _ short)

pub short_keeps : (r : Reel) (store u : List ℕ) → length u < picture_bytes r.pictured → store ≡ picture_store r store u
unfolding picture_store
short_keeps r store u short = rw (lt-leb _ _ short)

-- and one that came though no shape is given
pub shapeless_closes : (r : Reel) (n : ℕ) (store u : List ℕ) → r.pictured ≡ None
    → close r (Fault 4) ≡ picture_unit_of r n store u
unfolding picture_unit_of pushed_of lowest good_shape
shapeless_closes r n store u none = rw (none, le-leb 0 (length u) (omega arith))

pub shapeless_keeps : (r : Reel) (store u : List ℕ) → r.pictured ≡ None → store ≡ picture_store r store u
unfolding picture_store lowest good_shape
shapeless_keeps r store u none = rw (none, le-leb 0 (length u) (omega arith))

-- an entry that was read whole and is good; what the store holds does not matter
pub entry_leads : (r : Reel) (n : ℕ) (u : List ℕ) (entry : Entry) (first : Parity) (m : Option Measured) (p : Pushed) → 12 ≤ length u
    → entry ≡ entry_of u → good_entry entry ≡ true → first ≡ parity_named entry.parity → m ≡ measured_in entry
    → p.detector ≡ measured_detector r.detector first m
    → no_of p.answer ≡ measured_no r.detector
    → values_of p.answer ≡ when_done (measured_no r.detector) (measured_cadence r.detector first m)
    → pushed_as r (Entries (n - 1)) p ≡ entry_unit_of r n [] u
unfolding entry_unit_of lowest
entry_leads r n u entry first m p long read good led numbers d e v =
    push_leads r (Entries (n - 1)) [] (measured first m) p d e v ∙ rw (le-leb _ _ long, ← read, good, led, numbers)

pub any_store : (r : Reel) (n : ℕ) (store u : List ℕ) → entry_unit_of r n [] u ≡ entry_unit_of r n store u
unfolding entry_unit_of pushed_of
any_store r n store u = refl
