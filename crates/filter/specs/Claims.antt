-- What holds of the definitions here. `proofs/Claims.antt` proves each under the same name in small letters.
use Rattle.std.specs.Prelude.{ℕ, ◌≤◌, ◌≡◌, true, false, cond, T, eqb, ℤ, pos, negsuc, nat_abs, Float}
use mathlib.Core.List.{List, [], ◌∷◌, ◌++◌, Memᴰ}
use Rattle.std.specs.Float.{binary32}
use Rattle.std.specs.Float.Ieee.{add, sub, lt, le}
use Rattle.laws.specs.Refusal.{Says}
use Rattle.float.specs.Bounds.{Small, Unit}
use Rattle.field.specs.declared.Output.{Output}
use Rattle.field.specs.declared.Parity.{Parity}
use Rattle.field.specs.Field.{first_row_of}
use Rattle.plane.specs.declared.Shape.{Shape}
use Rattle.plane.specs.Plane.{value_of}
use Rattle.plane.specs.Coordinates.{parity_of}
use Rattle.filter.specs.declared.Quality.{Quality}
use Rattle.filter.specs.declared.Quality.TheVariants.{Weave}
use Rattle.filter.specs.declared.Rows.{Rows}
use Rattle.filter.specs.declared.Making.{Making}
use Rattle.filter.specs.Filter.{Sampler, average_of, moved_of, score_of, slanted_of, edge_of, sample_of}
use Rattle.filter.specs.Rows.{weaves, good_rows, rows_of, field_rows_of}
use Rattle.filter.specs.Making.{sample_in}
use Rattle.filter.specs.Answer.{edge_tests, sample_tests}

-- ---- values

-- the values are finite and at most 2 ^ 16 in size: those of a plane lie from 0 to 1, and the filters are held to more
abbrev pub Readable : Sampler → Type 0
Readable sampler = (x y : ℤ) → Small 16 (sampler x y)

-- A plane is readable, whatever its bytes and its shape.
abbrev pub PlaneIsReadable : Type 0
PlaneIsReadable = (bytes : List ℕ) (s : Shape) → Readable (value_of bytes s)

-- Every sample of three planes lies from 0 to 1, whatever their bytes and shapes: one that is made, one of the shown field, one that Weave takes.
abbrev pub SampleInUnit : Type 0
SampleInUnit = (making : Making) (before cur after : List ℕ) (x y : ℤ) → Unit (sample_in making before cur after x y)

-- A row that Bob, Yadif or Bwdif makes lies from 0 to 1, so it has no NaN.
abbrev pub MadeInUnit : Type 0
MadeInUnit =
    (quality : Quality) (rows : Rows) (before cur after : Sampler) →
    Readable before →
    Readable cur →
    Readable after →
    (x y : ℤ) →
    weaves quality ≡ false →
    (parity_of y ≡ rows.first → ⊥) →
    Unit (sample_of quality rows before cur after x y)

-- Those three leave a row of the shown field as it stands in cur.
abbrev pub ShownIsOwn : Type 0
ShownIsOwn =
    (quality : Quality) (rows : Rows) (before cur after : Sampler) (x y : ℤ) →
    weaves quality ≡ false →
    parity_of y ≡ rows.first →
    sample_of quality rows before cur after x y ≡ cur x y

-- Weave takes the mate's rows from before, and no others.
abbrev pub WeaveTakesMate : Type 0
WeaveTakesMate =
    (rows : Rows) (before cur after : Sampler) (x y : ℤ) →
    (parity_of y ≡ rows.mate → sample_of Weave rows before cur after x y ≡ before x y)
    × ((parity_of y ≡ rows.mate → ⊥) → sample_of Weave rows before cur after x y ≡ cur x y)

-- The ends of the inner clamp are in order, so that the source's `clamp` never panics.
abbrev pub EndsOrdered : Type 0
EndsOrdered =
    (before cur after : Sampler) →
    Readable before →
    Readable cur →
    Readable after →
    (x y : ℤ) →
    T
    (le (sub binary32 (average_of before cur after x y) (moved_of before cur after x y))
    (add binary32 (average_of before cur after x y) (moved_of before cur after x y)))

-- ---- slants

-- The slant is one of -2 to 2.
abbrev pub EdgeInReach : Type 0
EdgeInReach = (cur : Sampler) (x y : ℤ) → nat_abs (edge_of cur x y) ≤ 2

-- the slants in the order in which they are tried, and the whole score of one: 0.002 * |j| is added when j is not 0
abbrev pub slants : List ℤ
slants = pos 0 ∷ negsuc 0 ∷ pos 1 ∷ negsuc 1 ∷ pos 2 ∷ []

abbrev pub whole_score : Sampler → ℤ → ℤ → ℤ → Float
whole_score cur x y j = cond (eqb (nat_abs j) 0) (score_of cur x y j) (slanted_of cur x y j)

-- Of those tried, none has a score below that of j, and none before j one that is at most that of j.
pub record EarliestLeast (score : ℤ → Float) (tried : List ℤ) (j : ℤ) : Type 0 where
  pub earlier : List ℤ
  pub later : List ℤ
  pub stands : tried ≡ earlier ++ (j ∷ later)
  pub least : (i : ℤ) → Memᴰ i tried → lt (score i) (score j) ≡ false
  pub earliest : (i : ℤ) → Memᴰ i earlier → le (score i) (score j) ≡ false

-- The slant is the earliest of the least scores, whatever the sampler gives: with a NaN no comparison is true.
abbrev pub EdgeIsEarliestLeast : Type 0
EdgeIsEarliestLeast = (cur : Sampler) (x y : ℤ) → EarliestLeast (whole_score cur x y) slants (edge_of cur x y)

-- Of values as a plane has them no score is a NaN: one that is not below another is at least as large, and one that is not at most another is larger.
abbrev pub ScoresCompare : Type 0
ScoresCompare =
    (cur : Sampler) →
    Readable cur →
    (x y i j : ℤ) →
    nat_abs i ≤ 2 →
    nat_abs j ≤ 2 →
    (lt (whole_score cur x y i) (whole_score cur x y j) ≡ false → T (le (whole_score cur x y j) (whole_score cur x y i)))
    × (le (whole_score cur x y i) (whole_score cur x y j) ≡ false → T (lt (whole_score cur x y j) (whole_score cur x y i)))

-- ---- answers

-- `edge` gives n exactly when n applies and no lower number does, and 0 exactly when none applies; `sample` likewise.
abbrev pub EdgeSays : Type 0
EdgeSays = (s : Shape) (bytes : ℕ) (x y : ℤ) → Says (edge_tests s bytes x y)

abbrev pub SampleSays : Type 0
SampleSays = (making : Making) (before cur after : ℕ) (x y : ℤ) → Says (sample_tests making before cur after x y)

-- The rows that an output asks for, and those of one field, are never refused.
abbrev pub OutputRowsGood : Type 0
OutputRowsGood = (output : Output) → good_rows (rows_of output) ≡ true

abbrev pub FieldRowsGood : Type 0
FieldRowsGood = (first : Parity) → good_rows (field_rows_of (first_row_of first)) ≡ true
