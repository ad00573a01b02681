-- The rows a field lacks, by number (docs/RULES.md, "Rows a field lacks").
use Rattle.std.specs.Prelude.{ℕ, Bool, ◌&&◌, List, ◌∷◌, leb, ℤ, Float}
use Rattle.laws.specs.Lent.{Slice}
use Rattle.laws.specs.Refusal.{lowest}
use Rattle.filter.specs.declared.Rows.{Rows}
use Rattle.filter.specs.declared.Making.{Making}
use Rattle.filter.specs.Rows.{quality_named, field_rows_of}
use Rattle.filter.specs.Making.{sample_in}
use Rattle.filter.specs.Answer.{edge_tests as filterEdgeTests, sample_tests as filterSampleTests}
use Rattle.fill.specs.Fill.{plane_tests as fillPlaneTests, plane_made}
use Rattle.numbers.specs.declared.PlaneNumbers.{PlaneNumbers}
use Rattle.numbers.specs.Numbers.{shape_named}
use Rattle.desk.specs.Planes.{named}

abbrev pub rows_named : ℕ → ℕ → Rows
rows_named first mate = record { first = first; mate = mate }

abbrev pub making_named : ℕ → Rows → PlaneNumbers → PlaneNumbers → PlaneNumbers → Making
making_named quality rows before cur after = record {
  quality = quality_named quality;
  rows = rows;
  before = shape_named before;
  cur = shape_named cur;
  after = shape_named after;
}

abbrev pub edge_tests : PlaneNumbers → ℕ → ℤ → ℤ → List (ℕ × Bool)
edge_tests n bytes x y = named n.layout (filterEdgeTests (shape_named n) bytes x y)

abbrev pub edge_no : PlaneNumbers → ℕ → ℤ → ℤ → ℕ
edge_no n bytes x y = lowest (edge_tests n bytes x y)

-- 3 also where the quality's code or a layout's names nothing
abbrev pub all_named : ℕ → PlaneNumbers → PlaneNumbers → PlaneNumbers → Bool
all_named quality before cur after = leb quality 3 && leb before.layout 3 && leb cur.layout 3 && leb after.layout 3

abbrev pub sample_tests : ℕ → Rows → PlaneNumbers → PlaneNumbers → PlaneNumbers → ℕ → ℕ → ℕ → ℤ → ℤ → List (ℕ × Bool)
sample_tests quality rows before cur after before-bytes cur-bytes after-bytes x y =
    (3, all_named quality before cur after) ∷ filterSampleTests (making_named quality rows before cur after) before-bytes cur-bytes after-bytes x y

abbrev pub sample_no : ℕ → Rows → PlaneNumbers → PlaneNumbers → PlaneNumbers → ℕ → ℕ → ℕ → ℤ → ℤ → ℕ
sample_no quality rows before cur after before-bytes cur-bytes after-bytes x y =
    lowest (sample_tests quality rows before cur after before-bytes cur-bytes after-bytes x y)

-- the value, of the planes as the call finds them
abbrev pub sample_named : {A B C : Type 0} → ℕ → Rows → PlaneNumbers → PlaneNumbers → PlaneNumbers → Slice A → Slice B → Slice C → ℤ → ℤ → Float
sample_named quality rows before-shape cur-shape after-shape before cur after x y =
    sample_in (making_named quality rows before-shape cur-shape after-shape) before.entry.now cur.entry.now after.entry.now x y

-- 3 also where a code names nothing, or `first` is neither 0 nor 1
abbrev pub plane_tests : ℕ → ℕ → PlaneNumbers → PlaneNumbers → PlaneNumbers → ℕ → ℕ → ℕ → ℕ → List (ℕ × Bool)
plane_tests quality first before cur after before-bytes cur-bytes after-bytes room =
    (3, all_named quality before cur after && leb first 1)
    ∷ fillPlaneTests (making_named quality (field_rows_of first) before cur after) before-bytes cur-bytes after-bytes room

abbrev pub plane_no : ℕ → ℕ → PlaneNumbers → PlaneNumbers → PlaneNumbers → ℕ → ℕ → ℕ → ℕ → ℕ
plane_no quality first before cur after before-bytes cur-bytes after-bytes room =
    lowest (plane_tests quality first before cur after before-bytes cur-bytes after-bytes room)

-- the samples, of the planes as the call finds them
abbrev pub plane_named : {A B C : Type 0} → ℕ → ℕ → PlaneNumbers → PlaneNumbers → PlaneNumbers → Slice A → Slice B → Slice C → List Float
plane_named quality first before-shape cur-shape after-shape before cur after =
    plane_made (making_named quality (field_rows_of first) before-shape cur-shape after-shape) before.entry.now cur.entry.now after.entry.now
