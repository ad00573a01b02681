-- What the exported functions' contracts come to. First their numbers: each number is 0 exactly when no test of the call's own list fails, and n exactly when a test of n
-- fails and none of a lower number does. The numbers are those that the host gives, however large. `desk_quantise` refuses nothing.
-- proofs/Claims.antt proves each claim under its name in small letters.
use Rattle.std.specs.Prelude.{ℕ, ◌+◌, ◌-◌, ◌*◌, ◌^◌, ◌≤◌, ◌<◌, min, ◌≡◌, List, ℤ, nat_abs, length, get_or, Float}
use Rattle.std.specs.Float.{nan}
use Rattle.laws.specs.Refusal.{Says, written}
use Rattle.laws.specs.Rows.{over}
use Rattle.float.specs.Bounds.{Unit}
use Rattle.plane.specs.Plane.{word_of, code_of, value_of}
use Rattle.filter.specs.declared.Rows.{Rows}
use Rattle.filter.specs.Rows.{field_rows_of}
use Rattle.filter.specs.Making.{sample_in}
use Rattle.fill.specs.Fill.{plane_made}
use Rattle.colour.specs.declared.Conversion.{Conversion}
use Rattle.colour.specs.Answer.{to_rgb_tests}
use Rattle.comb.specs.Comb.{plane_comb}
use Rattle.comb.specs.Answer.{comb_tests, comb_no, rgba_tests}
use Rattle.numbers.specs.declared.PlaneNumbers.{PlaneNumbers}
use Rattle.desk.specs.Fields.{first_field_tests}
use Rattle.numbers.specs.Numbers.{shape_named}
use Rattle.desk.specs.Planes.{code_tests, code_no, at_tests, at_no}
use Rattle.desk.specs.Filters.{making_named, edge_tests, sample_tests, sample_no, plane_tests, plane_no}
use Rattle.desk.specs.Colours.{luma_tests}

abbrev pub FirstFieldSays : Type 0
FirstFieldSays = (structure top-field-first : ℕ) → Says (first_field_tests structure top-field-first)

abbrev pub CodeSays : Type 0
CodeSays = (n : PlaneNumbers) (bytes : ℕ) (x y : ℤ) → Says (code_tests n bytes x y)

abbrev pub AtSays : Type 0
AtSays = (n : PlaneNumbers) (bytes : ℕ) (x y : ℤ) → Says (at_tests n bytes x y)

abbrev pub CombSays : Type 0
CombSays = (width height depth stride bytes : ℕ) → Says (comb_tests width height depth stride bytes)

abbrev pub CombRgbaSays : Type 0
CombRgbaSays = (width height bytes : ℕ) → Says (rgba_tests width height bytes)

abbrev pub EdgeSays : Type 0
EdgeSays = (n : PlaneNumbers) (bytes : ℕ) (x y : ℤ) → Says (edge_tests n bytes x y)

abbrev pub SampleSays : Type 0
SampleSays =
    (quality : ℕ) (rows : Rows) (before cur after : PlaneNumbers) (before-bytes cur-bytes after-bytes : ℕ) (x y : ℤ) →
    Says (sample_tests quality rows before cur after before-bytes cur-bytes after-bytes x y)

abbrev pub PlaneSays : Type 0
PlaneSays =
    (quality first : ℕ) (before cur after : PlaneNumbers) (before-bytes cur-bytes after-bytes room : ℕ) →
    Says (plane_tests quality first before cur after before-bytes cur-bytes after-bytes room)

abbrev pub ToRgbSays : Type 0
ToRgbSays = (conversion : Conversion) (y cb cr : Float) → Says (to_rgb_tests conversion y cb cr)

abbrev pub LumaSays : Type 0
LumaSays = (primaries : ℕ) → Says (luma_tests primaries)

-- ---- codes and values, of calls that get 0: what is left in the lent place, whatever stood there and whatever the planes' bytes

-- `desk_code` leaves the shifted word, or 2 ^ depth - 1 where that is less.
abbrev pub CodeIsCut : Type 0
CodeIsCut =
    (n : PlaneNumbers) (plane : List ℕ) (x y : ℤ) (old : ℕ) →
    let number = code_no n (length plane) x y in
    number ≡ 0 →
    written number (code_of plane (shape_named n) (nat_abs x) (nat_abs y)) old
    ≡ min (word_of plane (shape_named n) (nat_abs x) (nat_abs y)) (2 ^ n.depth - 1)

-- `desk_comb` leaves at most what rows of 0 and of full in turn would give.
abbrev pub CombInDepth : Type 0
CombInDepth =
    (width height depth stride : ℕ) (plane : List ℕ) (old : ℕ) →
    let number = comb_no width height depth stride (length plane) in
    number ≡ 0 → written number (plane_comb plane width height depth stride) old ≤ (height - 2) * (width * (2 * (2 ^ depth - 1)))

-- `desk_at` and `desk_sample` leave a value from 0 to 1,
abbrev pub AtInUnit : Type 0
AtInUnit =
    (n : PlaneNumbers) (plane : List ℕ) (x y : ℤ) (old : Float) →
    let number = at_no n (length plane) x y in
    number ≡ 0 → Unit (written number (value_of plane (shape_named n) x y) old)

abbrev pub SampleInUnit : Type 0
SampleInUnit =
    (quality : ℕ) (rows : Rows) (before cur after : PlaneNumbers) (before-plane cur-plane after-plane : List ℕ) (x y : ℤ) (old : Float) →
    let number = sample_no quality rows before cur after (length before-plane) (length cur-plane) (length after-plane) x y in
    number ≡ 0 → Unit (written number (sample_in (making_named quality rows before cur after) before-plane cur-plane after-plane x y) old)

-- and `desk_plane` one for each column and row of the plane.
abbrev pub PlaneInUnit : Type 0
PlaneInUnit =
    (quality first : ℕ) (before cur after : PlaneNumbers) (before-plane cur-plane after-plane : List ℕ) (out : List Float) (x y : ℕ) →
    let number = plane_no quality first before cur after (length before-plane) (length cur-plane) (length after-plane) (length out) in
    let made = plane_made (making_named quality (field_rows_of first) before cur after) before-plane cur-plane after-plane in
    number ≡ 0 → x < cur.width → y < cur.height → Unit (get_or (written number (over made out) out) (y * cur.width + x) nan)
