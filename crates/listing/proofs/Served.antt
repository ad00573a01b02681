-- A buffer of 16,384 bytes holds every unit that the machine of `reel` wants, and a machine that wants none has ended.
use Prim.Native.Nat.{ℕ, zero, suc, ◌-◌, ◌≤◌, ◌<◌}
use native.Mathlib.Nat.{le_trans}
use native.Mathlib.Omega.{arith}
use mathlib.Core.Path.{◌≡◌, refl, ap₂}
use mathlib.Core.Bool.{Bool, true, false, cond}
use mathlib.Core.List.{List, []}
use Rattle.std.specs.Prelude.{Option}
use lib.Dec.{eqb, leb}
use lib.ListN.{length}
use borrow.Author.Tests.{eqb-true, eqb-false, ne_eqb, leb-true}
use Rattle.laws.specs.Refusal.{lowest, rising}
use Rattle.laws.proofs.Refusal.{all_pass}
use Rattle.pages.specs.Claims.{Serves}
use Rattle.pulldown.specs.Lock.{locked_of}
use Rattle.telecine.specs.History.{Push, push, number_in, cadence_in, next}
use Rattle.entry.specs.Entry.{word_at, entry_of, push_in}
use Rattle.reel.specs.declared.Pictured.{Pictured}
use Rattle.reel.specs.declared.Said.{Said}
use Rattle.reel.specs.declared.Said.TheVariants.{Quiet, Frame, Totals, Fault}
use Rattle.reel.specs.declared.Stage.{Stage}
use Rattle.reel.specs.declared.Stage.TheVariants.{ShapeCount, ShapeNumbers, EntryCount, Entries, Pictures, Done}
use Rattle.reel.specs.declared.Reel.{Reel}
use Rattle.reel.specs.declared.Next.{Next}
use Rattle.reel.specs.Reel.{entry_tests, picture_bytes, picture_count_tests, shape_tests}
use Rattle.reel.specs.Machine.{reel_of, want_at, want_of, tallied_in, state_of, picture_in, close, whole_of, judged_of, on_to, pushed_of, shape_count_of, shape_numbers_of, entry_count_of, entry_unit_of, picture_count_of, picture_unit_of, end_of, next_at, next_of, store_at, store_after}
use Rattle.reel.proofs.Fine.{Fine, given_fine, given_if, some_picture}
use Rattle.listing.specs.Listing.{text_of}
use Rattle.listing.specs.Steps.{Fed, reel_machine}

-- ---- the states that a file leads to

-- a picture that may come has some bytes, and no more than 16,384
abbrev good_at : Stage → Option Pictured → Type 0
good_at ShapeCount p = Unit {0}
good_at ShapeNumbers p = Unit {0}
good_at EntryCount p = Unit {0}
good_at (Entries n) p = Unit {0}
good_at (Pictures n) p = 0 < n → (1 ≤ picture_bytes p) × (picture_bytes p ≤ 16384)
good_at Done p = Unit {0}

pub record GoodReel (r : Reel) : Type 0 where
  pub fine : Fine r.pictured
  pub at : good_at r.stage r.pictured

abbrev pub Good : Fed → Type 0
Good f = GoodReel f.reel

-- ---- what is wanted

either : (b : Bool) (x y most : ℕ) → x ≤ most → y ≤ most → cond b x y ≤ most
either true x y most h k = h
either false x y most h k = k

some : (n : ℕ) → eqb n 0 ≡ false → 0 < n
some zero e = absurd (eqb-false 0 0 e refl)
some (suc n) e = omega arith

picture_held : (n : ℕ) (p : Option Pictured) (b : Bool) → eqb n 0 ≡ b → good_at (Pictures n) p → cond b 1 (picture_bytes p) ≤ 16384
picture_held n p true e g = omega arith
picture_held n p false e g = (g (some n e)).1

held_at : (stage : Stage) (p : Option Pictured) → good_at stage p → want_at stage p ≤ 16384
held_at ShapeCount p g = omega arith
held_at ShapeNumbers p g = omega arith
held_at EntryCount p g = omega arith
held_at (Entries n) p g = either (eqb n 0) 2 12 16384 (omega arith) (omega arith)
held_at (Pictures n) p g = picture_held n p (eqb n 0) refl g
held_at Done p g = omega arith

-- ---- where nothing is wanted

one_or : (b : Bool) (x y : ℕ) → 1 ≤ x → 1 ≤ y → 1 ≤ cond b x y
one_or true x y h k = h
one_or false x y h k = k

picture_some : (n : ℕ) (p : Option Pictured) (b : Bool) → eqb n 0 ≡ b → good_at (Pictures n) p → 1 ≤ cond b 1 (picture_bytes p)
picture_some n p true e g = omega arith
picture_some n p false e g = (g (some n e)).0

pub record Rests (r : Reel) (store : List ℕ) (next : Next) (after : List ℕ) : Type 0 where
  pub reel : next.reel ≡ r
  pub store_stays : after ≡ store
  pub quiet : text_of next.said ≡ []

rests_at : (stage : Stage) (r : Reel) (store unit : List ℕ) → good_at stage r.pictured → want_at stage r.pictured ≡ 0
    → Rests r store (next_at stage r store unit) (store_at stage r store unit)
rests_at ShapeCount r store unit g z = absurd (omega (arith, z))
rests_at ShapeNumbers r store unit g z = absurd (omega (arith, z))
rests_at EntryCount r store unit g z = absurd (omega (arith, z))
rests_at (Entries n) r store unit g z = absurd (omega (arith, z, one_or (eqb n 0) 2 12 (omega arith) (omega arith)))
rests_at (Pictures n) r store unit g z = absurd (omega (arith, z, picture_some n r.pictured (eqb n 0) refl g))
rests_at Done r store unit g z = record { reel = refl; store_stays = refl; quiet = refl }

-- ---- what a unit leads to

abbrev GoodNext : Next → Type 0
GoodNext next = GoodReel next.reel

chosen : (b : Bool) (x y : Next) → (b ≡ true → GoodNext x) → (b ≡ false → GoodNext y) → GoodNext (cond b x y)
chosen true x y h k = h refl
chosen false x y h k = k refl

closed : (r : Reel) (said : Said) → GoodReel r → GoodNext (close r said)
closed r said g = record { fine = g.fine; at = tt }

whole_good : (r : Reel) (k : ℕ) (unit : List ℕ) (more : Next) → GoodReel r → GoodNext more → GoodNext (whole_of r k unit more)
whole_good r k unit more g h = chosen (leb k (length unit)) more (close r (Fault 6)) (λ e. h) (λ e. closed r Quiet g)

judged_good : (r : Reel) (tests : List (ℕ × Bool)) (more : Next) → GoodReel r → (lowest tests ≡ 0 → GoodNext more) → GoodNext (judged_of r tests more)
judged_good r tests more g h = chosen (eqb (lowest tests) 0) more (close r (Fault (lowest tests))) (λ e. h (eqb-true (lowest tests) 0 e)) (λ e. closed r Quiet g)

first_on : (r : Reel) (b : Bool) → GoodReel r → GoodNext (on_to r (cond b EntryCount ShapeNumbers))
first_on r true g = record { fine = g.fine; at = tt }
first_on r false g = record { fine = g.fine; at = tt }

small_picture : (p : Option Pictured) (n : ℕ) → lowest (picture_count_tests p n) ≡ 0 → 0 < n → picture_bytes p ≤ 16384
unfolding rising
small_picture p n e h =
    leb-true (picture_bytes p) 16384
    (given_if (eqb n 0) (leb (picture_bytes p) 16384) (ne_eqb n 0 (λ z. omega arith)) (all_pass (picture_count_tests p n) tt e).1.0)

counted : (r : Reel) (n : ℕ) → GoodReel r → lowest (picture_count_tests r.pictured n) ≡ 0 → GoodNext (on_to r (Pictures n))
counted r n g e = record { fine = g.fine; at = λ h. (some_picture r.pictured n g.fine e h, small_picture r.pictured n e h) }

-- a frame is pushed, and the reel is on to a stage, or closed
pushed_good : (r : Reel) (stage : Stage) (store : List ℕ) (u : Push) → GoodReel r → good_at stage r.pictured → GoodNext (pushed_of r stage store u)
unfolding pushed_of
pushed_good r stage store u g a = frames (eqb (number_in (state_of r store) u) 0)
  where
    frames : (b : Bool) → GoodNext (cond b (record { reel = reel_of stage r.pictured (next (state_of r store) (push u)).detector (tallied_in (cadence_in (state_of r store) u) r.tally); said = Frame r.detector.lock.course.taken (cadence_in (state_of r store) u) (locked_of (next (state_of r store) (push u)).detector.lock) }) (close r (Fault (number_in (state_of r store) u))))
    frames true = record { fine = g.fine; at = a }
    frames false = closed r Quiet g

entry_good : (r : Reel) (n : ℕ) (store unit : List ℕ) → GoodReel r → GoodNext (entry_unit_of r n store unit)
unfolding entry_unit_of
entry_good r n store unit g =
    whole_good r 12 unit (judged_of r (entry_tests unit) (pushed_of r (Entries (n - 1)) store (push_in (entry_of unit)))) g
    (judged_good r (entry_tests unit) (pushed_of r (Entries (n - 1)) store (push_in (entry_of unit))) g
    (λ e. pushed_good r (Entries (n - 1)) store (push_in (entry_of unit)) g tt))

count_good : (r : Reel) (unit : List ℕ) → GoodReel r → GoodNext (picture_count_of r unit)
unfolding picture_count_of
count_good r unit g =
    whole_good r 2 unit (judged_of r (picture_count_tests r.pictured (word_at unit 0)) (on_to r (Pictures (word_at unit 0)))) g
    (judged_good r (picture_count_tests r.pictured (word_at unit 0)) (on_to r (Pictures (word_at unit 0))) g (λ e. counted r (word_at unit 0) g e))

picture_good : (r : Reel) (n : ℕ) (store unit : List ℕ) → GoodReel r → good_at (Pictures n) r.pictured → GoodNext (picture_unit_of r n store unit)
unfolding picture_unit_of
picture_good r n store unit g a =
    let fewer : good_at (Pictures (n - 1)) r.pictured = λ h. a (omega arith) in
    whole_good r (picture_bytes r.pictured) unit (pushed_of r (Pictures (n - 1)) store (picture_in r unit)) g
    (pushed_good r (Pictures (n - 1)) store (picture_in r unit) g fewer)

end_good : (r : Reel) (unit : List ℕ) → GoodReel r → GoodNext (end_of r unit)
unfolding end_of
end_good r unit g =
    chosen (eqb (length unit) 0) (close r (Totals r.tally)) (close r (Fault 3)) (λ e. closed r Quiet g) (λ e. closed r Quiet g)

good_at_lem : (stage : Stage) (r : Reel) (store unit : List ℕ) → GoodReel r → good_at stage r.pictured → GoodNext (next_at stage r store unit)
unfolding shape_count_of shape_numbers_of entry_count_of
good_at_lem ShapeCount r store unit g a = whole_good r 2 unit _ g (judged_good r _ _ g (λ e. first_on r (eqb (word_at unit 0) 0) g))
good_at_lem ShapeNumbers r store unit g a = whole_good r 10 unit _ g (judged_good r (shape_tests unit) _ g (λ e. record { fine = given_fine unit e; at = tt }))
good_at_lem EntryCount r store unit g a = whole_good r 2 unit _ g (record { fine = g.fine; at = tt })
good_at_lem (Entries n) r store unit g a =
    chosen (eqb n 0) (picture_count_of r unit) (entry_unit_of r n store unit) (λ e. count_good r unit g) (λ e. entry_good r n store unit g)
good_at_lem (Pictures n) r store unit g a =
    chosen (eqb n 0) (end_of r unit) (picture_unit_of r n store unit) (λ e. end_good r unit g) (λ e. picture_good r n store unit g a)
good_at_lem Done r store unit g a = g

pub served : (n : ℕ) → 16384 ≤ n → Serves reel_machine Good n
unfolding want_of next_of store_after
served n h = record {
  stays = λ f unit g. good_at_lem f.reel.stage f.reel f.store unit g g.at;
  holds = λ f g. le_trans (held_at f.reel.stage f.reel.pictured g.at) h;
  rests = λ f unit g z.
      let r = rests_at f.reel.stage f.reel f.store unit g.at z in
      (ap₂ (λ (reel : Reel) (store : List ℕ). record { reel = reel; store = store }) r.reel r.store_stays, r.quiet);
}
