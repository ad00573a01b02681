-- The claims of specs/Claims.antt. Of numbers: those of every list rise.
use Prim.Native.Nat.{ℕ, ◌-◌, ◌+◌, ◌*◌, ◌^◌, ◌≤◌, ◌<◌, min}
use mathlib.Core.Path.{◌≡◌, refl, sym, ap, subst, ◌∙◌}
use mathlib.Core.Bool.{true}
use native.Mathlib.Nat.{le_refl}
use native.Mathlib.Omega.{arith}
use lib.IntN.{nat_abs}
use mathlib.Core.List.{List}
use lib.ListN.{length, drop, get_or, get_or-append}
use lib.Ieee.{Float, nan}
use Rattle.laws.specs.Refusal.{rising, written}
use Rattle.laws.specs.Rows.{over}
use Rattle.laws.proofs.Claims.{lowest_says}
use Rattle.laws.proofs.Refusal.{all_pass, written_done}
use Rattle.laws.proofs.Lists.{length_laid, length_listed}
use Rattle.laws.proofs.Rows.{row_within}
use Rattle.float.specs.Bounds.{Unit}
use Rattle.plane.specs.declared.Shape.{Shape}
use Rattle.plane.specs.Plane.{good_shape, unshifted, word_of, full_code, code_of, value_of}
use Rattle.plane.proofs.Bounds.{good_within}
use Rattle.plane.proofs.Claims.{full_is_largest, value_in_unit}
use Rattle.comb.specs.Comb.{plane_comb}
use Rattle.comb.specs.Answer.{comb_tests}
use Rattle.comb.proofs.Claims.{comb_within}
use Rattle.filter.specs.Rows.{field_rows_of}
use Rattle.filter.proofs.Claims as filters
use Rattle.fill.specs.Fill.{plane_made}
use Rattle.fill.proofs.Claims as fills
use Rattle.numbers.specs.Numbers.{shape_named}
use Rattle.desk.specs.Planes.{code_tests}
use Rattle.desk.specs.Filters.{making_named}
use Rattle.desk.specs.Claims.{FirstFieldSays, CodeSays, AtSays, CombSays, CombRgbaSays, EdgeSays, SampleSays, PlaneSays, ToRgbSays, LumaSays, CodeIsCut, CombInDepth, AtInUnit, SampleInUnit, PlaneInUnit}

pub first_field_says : FirstFieldSays
unfolding rising
first_field_says structure top-field-first = lowest_says _ tt

pub code_says : CodeSays
unfolding rising
code_says n bytes x y = lowest_says _ tt

pub at_says : AtSays
unfolding rising
at_says n bytes x y = lowest_says _ tt

pub comb_says : CombSays
unfolding rising
comb_says width height depth stride bytes = lowest_says _ tt

pub comb_rgba_says : CombRgbaSays
unfolding rising
comb_rgba_says width height bytes = lowest_says _ tt

pub edge_says : EdgeSays
unfolding rising
edge_says n bytes x y = lowest_says _ tt

pub sample_says : SampleSays
unfolding rising
sample_says quality rows before cur after before-bytes cur-bytes after-bytes x y = lowest_says _ tt

pub plane_says : PlaneSays
unfolding rising
plane_says quality first before cur after before-bytes cur-bytes after-bytes room = lowest_says _ tt

pub to_rgb_says : ToRgbSays
unfolding rising
to_rgb_says conversion y cb cr = lowest_says _ tt

pub luma_says : LumaSays
unfolding rising
luma_says primaries = lowest_says _ tt

-- ---- codes and values
-- what holds of what is written holds of what the place then holds
left : {A : Type 0} (P : A → Type 0) {number : ℕ} (new old : A) → number ≡ 0 → P new → P (written number new old)
left P new old z p = subst P (written_done new old (sym z) refl) p

-- the largest code of a shape within the bounds
full_of : (s : Shape) → good_shape s ≡ true → full_code s.depth ≡ 2 ^ s.depth - 1
full_of s good = full_is_largest s.depth (good_within s good).depth_least (good_within s good).depth_most

pub code_is_cut : CodeIsCut
unfolding rising code_of
code_is_cut n plane x y old z =
    let word = word_of plane (shape_named n) (nat_abs x) (nat_abs y) in
    sym (written_done (code_of plane (shape_named n) (nat_abs x) (nat_abs y)) old (sym z) refl)
    ∙ ap (λ (full : ℕ). min word full) (full_of (shape_named n) (all_pass (code_tests n (length plane) x y) tt z).1.1.0)

pub comb_in_depth : CombInDepth
unfolding rising
comb_in_depth width height depth stride plane old z =
    let good = (all_pass (comb_tests width height depth stride (length plane)) tt z).0 in
    left (λ (total : ℕ). total ≤ (height - 2) * (width * (2 * (2 ^ depth - 1)))) (plane_comb plane width height depth stride) old z
    (subst (λ (full : ℕ). plane_comb plane width height depth stride ≤ (height - 2) * (width * (2 * full))) (full_of (unshifted width height depth stride) good)
    (comb_within plane width height depth stride))

pub at_in_unit : AtInUnit
at_in_unit n plane x y old z = left Unit (value_of plane (shape_named n) x y) old z (value_in_unit plane (shape_named n) x y)

pub sample_in_unit : SampleInUnit
sample_in_unit quality rows before cur after before-plane cur-plane after-plane x y old z =
    left Unit _ old z (filters.sample_in_unit (making_named quality rows before cur after) before-plane cur-plane after-plane x y)

pub plane_in_unit : PlaneInUnit
plane_in_unit quality first before cur after before-plane cur-plane after-plane out x y z l m =
    let making = making_named quality (field_rows_of first) before cur after in
    let made = plane_made making before-plane cur-plane after-plane in
    let long : length made ≡ cur.height * cur.width = length_laid _ cur.width (λ y. length_listed cur.width _) cur.height in
    let inner : y * cur.width + x < length made =
    rw long (omega (arith, row_within y cur.height cur.width (cur.height * cur.width) m (le_refl (cur.height * cur.width)))) in
    left (λ (held : List Float). Unit (get_or held (y * cur.width + x) nan)) (over made out) out z
    (subst Unit (sym (get_or-append made (drop (length made) out) nan (y * cur.width + x) inner)) (fills.plane_in_unit making before-plane cur-plane after-plane x y l m))
