-- The claims of `specs/Claims.antt`, most of them laws under another name.
use mathlib.Core.Path.{◌≡◌, refl, sym, subst, ap₂}
use mathlib.Core.Bool.{Bool, true, false, ◌&&◌}
use mathlib.Core.List.{List}
use Prim.Native.Nat.{ℕ, ◌≤◌, zero-le}
use borrow.Author.Tests.{le-leb}
use lib.Dec.{leb, eqb, lit≤}
use lib.IntN.{ℤ}
use Rattle.laws.specs.Refusal.{rising}
use Rattle.laws.proofs.Claims.{lowest_says}
use Rattle.float.specs.Bounds.{Unit}
use Rattle.float.proofs.Small.{choice, small_more}
use Rattle.float.proofs.Range.{unit_small}
use Rattle.plane.specs.Plane.{value_of}
use Rattle.plane.specs.Coordinates.{parity_of}
use Rattle.plane.proofs.Claims.{value_in_unit}
use Rattle.std.proofs.Common.{Option, Some, None}
use Rattle.field.specs.declared.Parity.{Parity}
use Rattle.field.specs.declared.Parity.TheVariants as parity
use Rattle.filter.specs.Rows.{first_row_or, weaves}
use Rattle.filter.specs.declared.Quality.{Quality}
use Rattle.filter.specs.declared.Quality.TheVariants.{Weave, Bob, Yadif, Bwdif}
use Rattle.filter.specs.declared.Making.{Making}
use Rattle.filter.specs.Filter.{made_of, sample_of}
use Rattle.filter.specs.Making.{of_planes}
use Rattle.filter.specs.Claims.{PlaneIsReadable, SampleInUnit, MadeInUnit, ShownIsOwn, WeaveTakesMate, EndsOrdered, EdgeInReach, EdgeIsEarliestLeast, ScoresCompare, EdgeSays, SampleSays, OutputRowsGood, FieldRowsGood}
use Rattle.filter.proofs.Sizes as sizes
use Rattle.filter.proofs.Samples.{woven_mate, woven_own, shown_own, missing_made}
use Rattle.filter.proofs.Slants as tries

pub plane_is_readable : PlaneIsReadable
plane_is_readable bytes s x y = small_more 16 (unit_small (value_in_unit bytes s x y)) tt

-- a row that a plane has lies from 0 to 1, and one that is made of three planes too
module _ (making : Making) (before cur after : List ℕ) (x y : ℤ) where
  taken : Unit (value_of before making.before x y)
  taken = value_in_unit before making.before x y

  own : Unit (value_of cur making.cur x y)
  own = value_in_unit cur making.cur x y

  filled : (quality : Quality) → weaves quality ≡ false → Unit (of_planes (made_of quality) making before cur after x y)
  filled quality w =
      sizes.made_in_unit (value_of before making.before) (value_of cur making.cur) (value_of after making.after)
      (plane_is_readable before making.before) (plane_is_readable cur making.cur) (plane_is_readable after making.after) x y quality w

  abbrev shown : Bool
  shown = eqb (parity_of y) making.rows.first

  of_quality : (quality : Quality) → Unit (of_planes (sample_of quality making.rows) making before cur after x y)
  unfolding sample_of
  of_quality Weave = choice Unit (eqb (parity_of y) making.rows.mate) taken own
  of_quality Bob = choice Unit shown own (filled Bob refl)
  of_quality Yadif = choice Unit shown own (filled Yadif refl)
  of_quality Bwdif = choice Unit shown own (filled Bwdif refl)

pub sample_in_unit : SampleInUnit
sample_in_unit making before cur after x y = of_quality making before cur after x y making.quality

pub made_in_unit : MadeInUnit
made_in_unit quality rows before cur after b c a x y w h =
    subst Unit (sym (missing_made rows before cur after x y quality w h)) (sizes.made_in_unit before cur after b c a x y quality w)

pub shown_is_own : ShownIsOwn
shown_is_own quality rows before cur after x y = shown_own rows before cur after x y quality

pub weave_takes_mate : WeaveTakesMate
weave_takes_mate rows before cur after x y = (woven_mate rows before cur after x y Weave refl, woven_own rows before cur after x y Weave refl)

pub ends_ordered : EndsOrdered
ends_ordered = sizes.ends_ordered

pub edge_in_reach : EdgeInReach
edge_in_reach = tries.edge_within

pub edge_is_earliest_least : EdgeIsEarliestLeast
edge_is_earliest_least = tries.edge_is_earliest_least

pub scores_compare : ScoresCompare
scores_compare = sizes.scores_compare

pub edge_says : EdgeSays
unfolding rising
edge_says s bytes x y = lowest_says _ tt

pub sample_says : SampleSays
unfolding rising
sample_says making before cur after x y = lowest_says _ tt

-- the first row of the field that was chosen, and another number where neither was
first_good : (chosen : Option Parity) (none most : ℕ) → 1 ≤ most → none ≤ most → leb (first_row_or chosen none) most ≡ true
first_good (Some parity.Top) none most some few = le-leb 0 most zero-le
first_good (Some parity.Bottom) none most some few = le-leb 1 most some
first_good None none most some few = le-leb none most few

pub output_rows_good : OutputRowsGood
output_rows_good output = ap₂ (λ (a b : Bool). a && b) (first_good output.field 0 1 (lit≤ tt) (lit≤ tt)) (first_good output.weave 2 2 (lit≤ tt) (lit≤ tt))

pub field_rows_good : FieldRowsGood
field_rows_good parity.Top = refl
field_rows_good parity.Bottom = refl
