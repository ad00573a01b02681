-- Numbers are narrowed for the crates beneath, and no answer changes by it: shapes within the bounds are not cut, and others are refused before
-- anything reads their sizes. One law says so for all calls (`judged`).
use Prim.Native.Nat.{ℕ, ◌*◌, ◌<◌, min}
use mathlib.Core.Path.{◌≡◌, sym, ap, ◌∙◌}
use mathlib.Core.Bool.{Bool, true, cond, ◌&&◌}
use mathlib.Core.List.{List, [], ◌∷◌, ◌++◌}
use native.Mathlib.Omega.{arith}
use lib.Dec.{leb, lit<}
use borrow.Author.Tests.{leb-true, lt-ltb}
use Rattle.laws.proofs.Bools.{halves}
use Rattle.laws.specs.Refusal.{lowest, rising}
use Rattle.laws.proofs.Refusal.{all_pass, first_passes, rest_passes, lowest_alike}
use Rattle.plane.specs.declared.Shape.{Shape}
use Rattle.plane.specs.declared.Grid.{Grid}
use Rattle.plane.specs.Plane.{grid_shape, good_shape, plane_bytes, agree}
use Rattle.numbers.specs.declared.GridNumbers.{GridNumbers}
use Rattle.numbers.specs.Numbers.{grid_named}
use Rattle.numbers.specs.Inner.{cut_grid}
use Rattle.numbers.proofs.Cut.{one_verdict, cut_same, cut_good}
use Rattle.weave.specs.declared.Field.{Field}
use Rattle.weave.specs.Weave.{given_of, good_lines, good_field, chroma_fits, fields_agree, whole, room_for, weave_tests, weave_no, line_tests, line_no}
use Rattle.weave.proofs.Judged.{each_of_three}
use Rattle.readback.specs.declared.Readback.{Readback}
use Rattle.readback.specs.Readback.{luma_shape, cb_shape, cr_shape, cr_bytes_of, sizes_of, sizes_tests, outputs_hold}
use Rattle.weavedesk.specs.declared.FieldNumbers.{FieldNumbers}
use Rattle.weavedesk.specs.declared.ReadbackNumbers.{ReadbackNumbers}
use Rattle.weavedesk.specs.Woven.{field_named, readback_named}
use Rattle.weavedesk.specs.Inner.{field_cut, readback_cut}

-- ---- the law

-- what is cut and what was given are one as soon as either is good
pub record Narrowed {A : Type 0} (good : A → Bool) (cut given : A) : Type 0 where
  pub from_cut : good cut ≡ true → cut ≡ given
  pub from_given : good given ≡ true → cut ≡ given

module _ {A : Type 0} {good : A → Bool} {cut given : A} (n : Narrowed good cut given) where
  pub verdict : good cut ≡ good given
  verdict = one_verdict (good cut) (good given) (λ e. sym (ap good (n.from_cut e)) ∙ e) (λ e. ap good (n.from_given e) ∙ e)

  -- a number that is judged before all tests that read the sizes
  pub judged : (m : ℕ) (tests : A → List (ℕ × Bool)) → lowest ((m, good cut) ∷ tests cut) ≡ lowest ((m, good given) ∷ tests given)
  judged m tests = lowest_alike m (tests cut) (tests given) verdict (λ e. ap (λ (a : A). lowest ((m, good a) ∷ tests a)) (n.from_given e))

both_narrowed :
    {A B : Type 0} {p : A → Bool} {q : B → Bool} {a a' : A} {b b' : B} → Narrowed p a a' → Narrowed q b b'
    → Narrowed (λ (x : A × B). p x.0 && q x.1) (a, b) (a', b')
both_narrowed {A} {B} {p} {q} {a} {a'} {b} {b'} m n = record {
  from_cut = λ e. let both = halves (p a) (q b) e in (λ i. (m.from_cut both.0 i, n.from_cut both.1 i));
  from_given = λ e. let both = halves (p a') (q b') e in (λ i. (m.from_given both.0 i, n.from_given both.1 i));
}

-- ---- the planes of a field

-- the grid of a shape: what is cut of a grid is cut of its shape
abbrev grid_of : Shape → Grid
grid_of s = record { width = s.width; height = s.height; depth = s.depth; stride = s.stride }

lines_narrowed : (g : Grid) → Narrowed good_lines (cut_grid g) g
lines_narrowed g = record {
  from_cut = λ e.
      let good = (halves (good_shape (grid_shape (cut_grid g))) (leb (cut_grid g).height 2176) e).0 in
      ap grid_of (cut_same (grid_shape g) (sym (cut_good (grid_shape g)) ∙ good));
  from_given = λ e. ap grid_of (cut_same (grid_shape g) (halves (good_shape (grid_shape g)) (leb g.height 2176) e).0);
}

pub field_narrowed : (n : FieldNumbers) → Narrowed good_field (field_cut n) (field_named n)
field_narrowed n =
    let luma = lines_narrowed (grid_named n.luma) in
    let cb = lines_narrowed (grid_named n.cb) in
    let cr = lines_narrowed (grid_named n.cr) in
    record {
      from_cut = λ e.
          let each = each_of_three (good_lines (field_cut n).luma) (good_lines (field_cut n).cb) (good_lines (field_cut n).cr) e in
          (λ i. record { luma = luma.from_cut each.0 i; cb = cb.from_cut each.1 i; cr = cr.from_cut each.2 i });
      from_given = λ e.
          let each = each_of_three (good_lines (field_named n).luma) (good_lines (field_named n).cb) (good_lines (field_named n).cr) e in
          (λ i. record { luma = luma.from_given each.0 i; cb = cb.from_given each.1 i; cr = cr.from_given each.2 i });
    }

-- ---- two fields

module _ (t b : FieldNumbers) (luma cb cr luma' cb' cr' : List ℕ) (luma_room cb_room cr_room : ℕ) where
  abbrev pub number_of : Field × Field → ℕ
  number_of x = weave_no (given_of x.0 luma cb cr) (given_of x.1 luma' cb' cr') luma_room cb_room cr_room

  pub weave_number : number_of (field_cut t, field_cut b) ≡ number_of (field_named t, field_named b)
  weave_number =
      judged (both_narrowed (field_narrowed t) (field_narrowed b)) 4
      (λ (x : Field × Field).
      (5, fields_agree x.0 x.1 && chroma_fits x.0 && chroma_fits x.1)
      ∷ (6, whole (given_of x.0 luma cb cr) && whole (given_of x.1 luma' cb' cr'))
      ∷ (7, room_for x.0 luma_room cb_room cr_room)
      ∷ [])

  pub weave_same : number_of (field_named t, field_named b) ≡ 0 → (field_cut t ≡ field_named t) × (field_cut b ≡ field_named b)
  unfolding rising
  weave_same done =
      let tests = all_pass (weave_tests (given_of (field_named t) luma cb cr) (given_of (field_named b) luma' cb' cr') luma_room cb_room cr_room) tt done in
      let good = halves (good_field (field_named t)) (good_field (field_named b)) tests.0 in
      ((field_narrowed t).from_given good.0, (field_narrowed b).from_given good.1)

-- ---- a single line

module _ (t : GridNumbers) (top-bytes : ℕ) (b : GridNumbers) (bottom-bytes y : ℕ) where
  -- a line that is inside by the height as given has the numbers that line 0 has
  pub line_number :
      y < t.height * 2 → line_no (cut_grid (grid_named t)) top-bytes (cut_grid (grid_named b)) bottom-bytes 0 ≡ line_no (grid_named t) top-bytes (grid_named b) bottom-bytes y
  unfolding lowest
  line_number h =
      let inside = lt-ltb y (t.height * 2) h in
      let front = lt-ltb 0 (min t.height 65535 * 2) (omega arith) in
      let rest =
      judged (both_narrowed (lines_narrowed (grid_named t)) (lines_narrowed (grid_named b))) 4
      (λ (x : Grid × Grid).
      (5, agree (grid_shape x.0) (grid_shape x.1))
      ∷ (6, leb (plane_bytes (grid_shape x.0)) top-bytes && leb (plane_bytes (grid_shape x.1)) bottom-bytes)
      ∷ []) in
      (λ i. cond (front i) (rest i) 3) ∙ (λ i. cond (sym inside i) (rest 1) 3)

  pub line_same : line_no (grid_named t) top-bytes (grid_named b) bottom-bytes y ≡ 0 → (cut_grid (grid_named t) ≡ grid_named t) × (cut_grid (grid_named b) ≡ grid_named b)
  unfolding rising
  line_same done =
      let tests = all_pass (line_tests (grid_named t) top-bytes (grid_named b) bottom-bytes y) tt done in
      let good = halves (good_lines (grid_named t)) (good_lines (grid_named b)) tests.1.0 in
      ((lines_narrowed (grid_named t)).from_given good.0, (lines_narrowed (grid_named b)).from_given good.1)

-- ---- a frame read back

-- behind the tests of the planes the question has none, and the copy has 7
abbrev pub nothing : Readback → List (ℕ × Bool)
nothing r = []

abbrev pub seven : ℕ → ℕ → ℕ → Readback → List (ℕ × Bool)
seven luma_room cb_room cr_room r = (7, outputs_hold (sizes_of r) luma_room cb_room cr_room) ∷ []

abbrev shapes_good : Readback → Bool
shapes_good r = good_shape (luma_shape r) && good_shape (cb_shape r) && good_shape (cr_shape r)

module _ (n : ReadbackNumbers) where
  abbrev luma : Shape
  luma = luma_shape (readback_named n)

  -- of a count that fits its place, what is cut of a frame is cut of its luma's shape
  same_frame : min n.planes 255 ≡ n.planes → good_shape luma ≡ true → readback_cut n ≡ readback_named n
  same_frame count good =
      let sizes = cut_same luma good in
      λ i. record {
        planes = count i;
        width = (sizes i).width;
        height = (sizes i).height;
        depth = (sizes i).depth;
        luma_pitch = n.luma_pitch;
        second_pitch = n.second_pitch;
        third_pitch = n.third_pitch;
      }

  shapes_narrowed : min n.planes 255 ≡ n.planes → Narrowed shapes_good (readback_cut n) (readback_named n)
  shapes_narrowed count = record {
    from_cut = λ e.
        let r = readback_cut n in
        same_frame count (sym (cut_good luma) ∙ (each_of_three (good_shape (luma_shape r)) (good_shape (cb_shape r)) (good_shape (cr_shape r)) e).0);
    from_given = λ e. same_frame count (each_of_three (good_shape luma) (good_shape (cb_shape (readback_named n))) (good_shape (cr_shape (readback_named n))) e).0;
  }

  -- a count that passes fits its place, and one that is cut does not pass
  abbrev counts : ℕ → Bool
  counts k = leb 1 k && leb k 3

  uncut : counts n.planes ≡ true → min n.planes 255 ≡ n.planes
  uncut e = omega (arith, leb-true n.planes 3 (halves (leb 1 n.planes) (leb n.planes 3) e).1)

  uncut_too : counts (min n.planes 255) ≡ true → min n.planes 255 ≡ n.planes
  uncut_too e = omega (arith, leb-true (min n.planes 255) 3 (halves (leb 1 (min n.planes 255)) (leb (min n.planes 255) 3) e).1)

  counts_same : counts (min n.planes 255) ≡ counts n.planes
  counts_same =
      one_verdict (counts (min n.planes 255)) (counts n.planes) (λ e. sym (ap counts (uncut_too e)) ∙ e) (λ e. ap counts (uncut e) ∙ e)

  -- the tests of the planes, and whatever stands behind them
  module _ (first second third : ℕ) (more : Readback → List (ℕ × Bool)) where
    abbrev tests_of : Readback → List (ℕ × Bool)
    tests_of r = sizes_tests r first second third ++ more r

    few : min n.planes 255 ≡ n.planes → lowest (tests_of (readback_cut n)) ≡ lowest (tests_of (readback_named n))
    unfolding lowest
    few count =
        let rest =
        judged (shapes_narrowed count) 4
        (λ (r : Readback).
        (6, leb (plane_bytes (luma_shape r)) first && leb (plane_bytes (cb_shape r)) second && leb (plane_bytes (cr_shape r)) (cr_bytes_of r second third)) ∷ more r) in
        (λ i. cond (counts (count i)) (cond (leb 2 (count i)) (rest i) 2) 1)

    pub readback_number : lowest (tests_of (readback_cut n)) ≡ lowest (tests_of (readback_named n))
    readback_number = lowest_alike 1 _ _ counts_same (λ e. few (uncut e))

    pub readback_same : lowest (tests_of (readback_named n)) ≡ 0 → readback_cut n ≡ readback_named n
    readback_same done =
        let behind_one = rest_passes 1 _ _ (lit< tt) done in
        let behind_two = rest_passes 2 _ _ (lit< tt) behind_one in
        (shapes_narrowed (uncut (first_passes 1 _ _ (lit< tt) done))).from_given (first_passes 4 _ _ (lit< tt) behind_two)
