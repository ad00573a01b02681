-- The same, a unit at a time: what the machine's functions give, on every state that its struct can hold, and the machine fed a whole file.
use Rattle.std.specs.Prelude.{ℕ, zero, suc, ◌+◌, ◌-◌, ◌≤◌, min, ◌≡◌, Bool, cond, List, [], ◌∷◌, Option, Some, None, eqb, leb, length, take, drop}
use Rattle.laws.specs.Refusal.{lowest}
use Rattle.field.specs.declared.Cadence.{Cadence}
use Rattle.field.specs.declared.Cadence.TheVariants as cadence
use Rattle.plane.specs.Plane.{grid_shape}
use Rattle.pulldown.specs.Lock.{locked_of}
use Rattle.telecine.specs.declared.Detector.{Detector}
use Rattle.telecine.specs.Detector.{fresh_detector}
use Rattle.telecine.specs.History.{State, Push, picture, push, number_in, cadence_in, next}
use Rattle.entry.specs.Entry.{word_at, entry_of, push_in}
use Rattle.reel.specs.declared.Pictured.{Pictured}
use Rattle.reel.specs.declared.Tally.{Tally}
use Rattle.reel.specs.declared.Said.{Said}
use Rattle.reel.specs.declared.Said.TheVariants.{Quiet, Frame, Totals, Fault}
use Rattle.reel.specs.declared.Stage.{Stage}
use Rattle.reel.specs.declared.Stage.TheVariants.{ShapeCount, ShapeNumbers, EntryCount, Entries, Pictures, Done}
use Rattle.reel.specs.declared.Reel.{Reel}
use Rattle.reel.specs.declared.Next.{Next}
use Rattle.reel.specs.Reel.{shape_count_tests, shape_tests, pictured_in, shown, entry_tests, picture_bytes, picture_count_tests, no_frames}

abbrev pub reel_of : Stage → Option Pictured → Detector → Tally → Reel
reel_of stage p d t = record { stage = stage; pictured = p; detector = d; tally = t }

abbrev pub start_of : Reel
start_of = reel_of ShapeCount None fresh_detector no_frames

-- how many bytes the next unit has; 1 at the end, where none should come, and 0 once the file has been judged
abbrev pub want_at : Stage → Option Pictured → ℕ
want_at ShapeCount p = 2
want_at ShapeNumbers p = 10
want_at EntryCount p = 2
want_at (Entries n) p = cond (eqb n 0) 2 12
want_at (Pictures n) p = cond (eqb n 0) 1 (picture_bytes p)
want_at Done p = 0

unfoldable pub want_of : Reel → ℕ
want_of r = want_at r.stage r.pictured

-- on to another stage, with nothing said; and the end, where this is said
abbrev pub on_to : Reel → Stage → Next
on_to r stage = record { reel = reel_of stage r.pictured r.detector r.tally; said = Quiet }

abbrev pub close : Reel → Said → Next
close r said = record { reel = reel_of Done r.pictured r.detector r.tally; said = said }

-- a unit of k bytes, or the file is cut short; then it is judged
abbrev pub whole_of : Reel → ℕ → List ℕ → Next → Next
whole_of r k u more = cond (leb k (length u)) more (close r (Fault 6))

abbrev pub judged_of : Reel → List (ℕ × Bool) → Next → Next
judged_of r tests more = cond (eqb (lowest tests) 0) more (close r (Fault (lowest tests)))

-- A count with one more in it. It stops at the largest number that the struct holds, which no reel comes near.
abbrev pub one_more : ℕ → ℕ
one_more n = min 18446744073709551615 (n + 1)

abbrev pub tallied_in : Cadence → Tally → Tally
tallied_in cadence.Whole t = record { whole = one_more t.whole; drop = t.drop; spanning = t.spanning; none = t.none }
tallied_in cadence.Drop t = record { whole = t.whole; drop = one_more t.drop; spanning = t.spanning; none = t.none }
tallied_in cadence.Spanning t = record { whole = t.whole; drop = t.drop; spanning = one_more t.spanning; none = t.none }
tallied_in cadence.None t = record { whole = t.whole; drop = t.drop; spanning = t.spanning; none = one_more t.none }

-- the machine's detector with the lent store
abbrev pub state_of : Reel → List ℕ → State
state_of r store = record { detector = r.detector; store = store }

-- a frame is pushed
unfoldable pub pushed_of : Reel → Stage → List ℕ → Push → Next
pushed_of r stage store u =
    cond (eqb (number_in (state_of r store) u) 0)
    (record {
      reel = reel_of stage r.pictured (next (state_of r store) (push u)).detector (tallied_in (cadence_in (state_of r store) u) r.tally);
      said = Frame r.detector.lock.course.taken (cadence_in (state_of r store) u) (locked_of (next (state_of r store) (push u)).detector.lock);
    })
    (close r (Fault (number_in (state_of r store) u)))

unfoldable pub shape_count_of : Reel → List ℕ → Next
shape_count_of r u = whole_of r 2 u (judged_of r (shape_count_tests (word_at u 0)) (on_to r (cond (eqb (word_at u 0) 0) EntryCount ShapeNumbers)))

unfoldable pub shape_numbers_of : Reel → List ℕ → Next
shape_numbers_of r u = whole_of r 10 u (judged_of r (shape_tests u) (record { reel = reel_of EntryCount (Some (pictured_in u)) r.detector r.tally; said = Quiet }))

unfoldable pub entry_count_of : Reel → List ℕ → Next
entry_count_of r u = whole_of r 2 u (on_to r (Entries (word_at u 0)))

unfoldable pub entry_unit_of : Reel → ℕ → List ℕ → List ℕ → Next
entry_unit_of r n store u = whole_of r 12 u (judged_of r (entry_tests u) (pushed_of r (Entries (n - 1)) store (push_in (entry_of u))))

unfoldable pub picture_count_of : Reel → List ℕ → Next
picture_count_of r u = whole_of r 2 u (judged_of r (picture_count_tests r.pictured (word_at u 0)) (on_to r (Pictures (word_at u 0))))

abbrev pub picture_in : Reel → List ℕ → Push
picture_in r u = picture u (grid_shape (shown r.pictured).shape) (shown r.pictured).first

unfoldable pub picture_unit_of : Reel → ℕ → List ℕ → List ℕ → Next
picture_unit_of r n store u = whole_of r (picture_bytes r.pictured) u (pushed_of r (Pictures (n - 1)) store (picture_in r u))

unfoldable pub picture_store : Reel → List ℕ → List ℕ → List ℕ
picture_store r store u = cond (leb (picture_bytes r.pictured) (length u)) (next (state_of r store) (push (picture_in r u))).store store

unfoldable pub end_of : Reel → List ℕ → Next
end_of r u = cond (eqb (length u) 0) (close r (Totals r.tally)) (close r (Fault 3))

abbrev pub next_at : Stage → Reel → List ℕ → List ℕ → Next
next_at ShapeCount r store u = shape_count_of r u
next_at ShapeNumbers r store u = shape_numbers_of r u
next_at EntryCount r store u = entry_count_of r u
next_at (Entries n) r store u = cond (eqb n 0) (picture_count_of r u) (entry_unit_of r n store u)
next_at (Pictures n) r store u = cond (eqb n 0) (end_of r u) (picture_unit_of r n store u)
next_at Done r store u = record { reel = r; said = Quiet }

-- what a unit leads to, and what the store then holds
unfoldable pub next_of : Reel → List ℕ → List ℕ → Next
next_of r store u = next_at r.stage r store u

abbrev pub store_at : Stage → Reel → List ℕ → List ℕ → List ℕ
store_at ShapeCount r store u = store
store_at ShapeNumbers r store u = store
store_at EntryCount r store u = store
store_at (Entries n) r store u = store
store_at (Pictures n) r store u = cond (eqb n 0) store (picture_store r store u)
store_at Done r store u = store

unfoldable pub store_after : Reel → List ℕ → List ℕ → List ℕ
store_after r store u = store_at r.stage r store u

-- ---- the machine fed a list of bytes by units: as many as it wants, or what is left

abbrev pub turn : Reel → List ℕ → List ℕ → Next
turn r store bytes = next_of r store (take (want_of r) bytes)

abbrev pub store_then : Reel → List ℕ → List ℕ → List ℕ
store_then r store bytes = store_after r store (take (want_of r) bytes)

abbrev pub left : Reel → List ℕ → List ℕ
left r bytes = drop (want_of r) bytes

-- nothing is heard of what is quiet
abbrev pub heard : Said → List Said → List Said
heard Quiet more = more
heard (Frame n c locked) more = Frame n c locked ∷ more
heard (Totals t) more = Totals t ∷ more
heard (Fault n) more = Fault n ∷ more

-- what is said in some turns, and where the machine then is
abbrev pub said_in : ℕ → Reel → List ℕ → List ℕ → List Said
said_in zero r store bytes = []
said_in (suc k) r store bytes = heard (turn r store bytes).said (said_in k (turn r store bytes).reel (store_then r store bytes) (left r bytes))

abbrev pub reel_after : ℕ → Reel → List ℕ → List ℕ → Reel
reel_after zero r store bytes = r
reel_after (suc k) r store bytes = reel_after k (turn r store bytes).reel (store_then r store bytes) (left r bytes)

-- Lent this store and fed these bytes the machine ends, after few turns, and this is what it said.
pub record Ends (r : Reel) (store bytes : List ℕ) (all : List Said) : Type 0 where
  pub turns : ℕ
  pub ends : (reel_after turns r store bytes).stage ≡ Done
  pub says : said_in turns r store bytes ≡ all
  pub few : turns ≤ length bytes + 2
