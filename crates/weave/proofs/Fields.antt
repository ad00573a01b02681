-- What planes that can be woven have, number by number, and where their lines stand.
use Prim.Native.Nat.{ℕ, ◌+◌, ◌-◌, ◌*◌, ◌/◌, ◌%◌, ◌≤◌, ◌<◌}
use mathlib.Core.Path.{◌≡◌, refl, sym, ap, ap₂, ◌∙◌}
use mathlib.Core.Bool.{Bool, true, false, cond, ◌&&◌}
use mathlib.Core.List.{List, ◌++◌}
use native.Mathlib.Nat.{suc-mul}
use native.Mathlib.Numerals.{add-one}
use native.Mathlib.Omega.{arith}
use lib.Dec.{leb, eqb}
use lib.ListN.{length, take, drop}
use borrow.Author.Tests.{leb-true, eqb-true, eq-eqb, ne_eqb}
use Rattle.laws.proofs.Bools.{halves}
use Rattle.laws.specs.Rows.{laid, over}
use Rattle.laws.proofs.Rows.{row_within, strided_within}
use Rattle.laws.proofs.Lists.{part_length, Stacked, stack_starts, stacks_part, stack_ends, clamped, clamped_wide, clamped_row, clamped_laid}
use Rattle.plane.specs.declared.Shape.{Shape}
use Rattle.plane.specs.Plane.{good_shape, grid_shape, plane_bytes, sample_bytes, agree}
use Rattle.plane.proofs.Bounds.{good_within}
use Rattle.plane.specs.declared.Grid.{Grid}
use Rattle.weave.specs.Weave.{line_bytes, good_lines, line_in, woven_line, place_in, line_place, woven_plane, woven_bytes}
use Rattle.weave.specs.Claims.{Matched}

-- planes that agree, number by number
pub record Alike (a b : Shape) : Type 0 where
  pub widths : a.width ≡ b.width
  pub heights : a.height ≡ b.height
  pub depths : a.depth ≡ b.depth

pub alike_in : (a b : Shape) → agree a b ≡ true → Alike a b
alike_in a b h =
    let to-depth = halves (eqb a.width b.width && eqb a.height b.height) (eqb a.depth b.depth) h in
    let sizes = halves (eqb a.width b.width) (eqb a.height b.height) to-depth.0 in
    record {
      widths = eqb-true a.width b.width sizes.0;
      heights = eqb-true a.height b.height sizes.1;
      depths = eqb-true a.depth b.depth to-depth.1;
    }

-- what the bounds of a plane of a field come to
pub record Bounded (l : Grid) : Type 0 where
  pub height_least : 1 ≤ l.height
  pub height_most : l.height ≤ 2176
  pub stride_most : l.stride ≤ 65536
  pub line_most : line_bytes l ≤ l.stride

pub bounded : (l : Grid) → good_lines l ≡ true → Bounded l
bounded l h =
    let both = halves (good_shape (grid_shape l)) (leb l.height 2176) h in
    let w = good_within (grid_shape l) both.0 in
    record {
      height_least = w.height_least;
      height_most = leb-true l.height 2176 both.1;
      stride_most = w.stride_most;
      line_most = w.row_fits;
    }

-- a line of a plane that has the bytes it needs ends within it
pub line_within : (l : Grid) (bytes r : ℕ) → plane_bytes (grid_shape l) ≤ bytes → r < l.height → r * l.stride + line_bytes l ≤ bytes
line_within l bytes r whole h = strided_within l.stride l.height (line_bytes l) bytes r whole h

-- an even woven line is a top line, an odd one a bottom line
module _ (top : List ℕ) (t : Grid) (bottom : List ℕ) (b : Grid) where
  pub top_line : (y : ℕ) → y % 2 ≡ 0 → woven_line top t bottom b y ≡ line_in top t (y / 2)
  unfolding woven_line
  top_line y h = rw (eq-eqb (y % 2) 0 h)

  pub bottom_line : (y : ℕ) → (y % 2 ≡ 0 → ⊥) → woven_line top t bottom b y ≡ line_in bottom b (y / 2)
  unfolding woven_line
  bottom_line y h = rw (ne_eqb (y % 2) 0 h)

  even_line : (r : ℕ) → woven_line top t bottom b (r * 2) ≡ line_in top t r
  even_line r =
      let half : r * 2 / 2 ≡ r = omega arith in
      top_line (r * 2) (omega arith) ∙ ap (λ (k : ℕ). line_in top t k) half

  odd_line : (r : ℕ) → woven_line top t bottom b (r * 2 + 1) ≡ line_in bottom b r
  odd_line r =
      let half : (r * 2 + 1) / 2 ≡ r = omega arith in
      bottom_line (r * 2 + 1) (λ h. omega arith) ∙ ap (λ (k : ℕ). line_in bottom b k) half

-- where a woven line stands
module _ (top : ℕ × ℕ) (t : Grid) (bottom : ℕ × ℕ) (b : Grid) (y : ℕ) where
  pub top_place : y % 2 ≡ 0 → line_place top t bottom b y ≡ place_in top t (y / 2)
  top_place h = rw (eq-eqb (y % 2) 0 h)

  pub bottom_place : (y % 2 ≡ 0 → ⊥) → line_place top t bottom b y ≡ place_in bottom b (y / 2)
  bottom_place h = rw (ne_eqb (y % 2) 0 h)

-- the lines of a woven plane, of which the last stands for each that lies past it
abbrev pub woven_rows : List ℕ → Grid → List ℕ → Grid → ℕ → List ℕ
woven_rows top t bottom b = clamped (woven_line top t bottom b) (t.height * 2 - 1)

module _ (top : List ℕ) (t : Grid) (bottom : List ℕ) (b : Grid) (m : Matched top t bottom b) where
  some_row : 1 ≤ t.height
  some_row = (good_within (grid_shape t) (halves (good_shape (grid_shape t)) (leb t.height 2176) m.top_good).0).height_least

  pub same_size : line_bytes b ≡ line_bytes t
  same_size =
      let same = alike_in (grid_shape t) (grid_shape b) m.alike in
      ap₂ (λ (width depth : ℕ). width * 1 * sample_bytes depth) (sym same.widths) (sym same.depths)

  same_height : b.height ≡ t.height
  same_height = sym (alike_in (grid_shape t) (grid_shape b) m.alike).heights

  -- where the lines of row r end
  pub top_ends : (r : ℕ) → r < t.height → r * t.stride + line_bytes t ≤ length top
  top_ends r h = line_within t (length top) r m.top_whole h

  pub bottom_ends : (r : ℕ) → r < t.height → r * b.stride + line_bytes t ≤ length bottom
  bottom_ends r h =
      let below : r < b.height = omega (arith, same_height) in
      omega (arith, same_size, line_within b (length bottom) r m.bottom_whole below)

  -- every woven line is as long as a line of either field
  line_length : (y : ℕ) → y < t.height * 2 → length (woven_line top t bottom b y) ≡ line_bytes t
  unfolding woven_line
  line_length y h = either (eqb (y % 2) 0)
    where
      either : (even : Bool) → length (cond even (line_in top t (y / 2)) (line_in bottom b (y / 2))) ≡ line_bytes t
      either true = part_length top (y / 2 * t.stride) (line_bytes t) (top_ends (y / 2) (omega arith))
      either false = rw same_size (part_length bottom (y / 2 * b.stride) (line_bytes t) (bottom_ends (y / 2) (omega arith)))

  pub rows_wide : (y : ℕ) → length (woven_rows top t bottom b y) ≡ line_bytes t
  rows_wide = clamped_wide (woven_line top t bottom b) (t.height * 2 - 1) (line_bytes t) (λ y h. line_length y (omega (arith, some_row)))

  pub rows_laid : laid (t.height * 2) (woven_rows top t bottom b) ≡ woven_plane top t bottom b
  unfolding woven_plane
  rows_laid = clamped_laid (woven_line top t bottom b) (t.height * 2 - 1) (t.height * 2) (omega (arith, some_row))

  pub even_row : (r : ℕ) → r < t.height → line_in top t r ≡ woven_rows top t bottom b (r * 2)
  even_row r h = sym (clamped_row (woven_line top t bottom b) (t.height * 2 - 1) (r * 2) (omega arith) ∙ even_line top t bottom b r)

  pub odd_row : (r : ℕ) → r < t.height → line_in bottom b r ≡ woven_rows top t bottom b (r * 2 + 1)
  odd_row r h = sym (clamped_row (woven_line top t bottom b) (t.height * 2 - 1) (r * 2 + 1) (omega arith) ∙ odd_line top t bottom b r)

  -- ---- a loop that writes two lines of n bytes in a turn
  module _ {n height : ℕ} (e : n ≡ line_bytes t) (all : height ≡ t.height) where
    wide : (y : ℕ) → length (woven_rows top t bottom b y) ≡ n
    wide y = rows_wide y ∙ sym e

    -- where a turn's lines end
    pub ends :
        {old new : List ℕ} (r : ℕ) →
        Stacked (woven_rows top t bottom b) n (t.height * 2) old new (r * 2) → r < height → woven_bytes t ≤ length old →
        (r * 2 * n + n + n ≤ length new) × (r * t.stride + n ≤ length top) × (r * b.stride + n ≤ length bottom)
    ends {old} {new} r s h room =
        let below : r < t.height = omega (arith, all) in
        let enough : t.height * 2 * n ≤ length new = rw e (omega (arith, room, s.long)) in
        let at : r * 2 * n + n ≡ (r * 2 + 1) * n = rw (add-one, suc-mul) in (
          rw at (row_within (r * 2 + 1) (t.height * 2) n (length new) (omega arith) enough),
          rw e (top_ends r below),
          rw e (bottom_ends r below),
        )

    pub no_line : {old : List ℕ} → Stacked (woven_rows top t bottom b) n (t.height * 2) old old 0
    no_line = stack_starts wide

    pub two_lines :
        {old new newer newest : List ℕ} (r : ℕ) →
        Stacked (woven_rows top t bottom b) n (t.height * 2) old new (r * 2) → r < height → woven_bytes t ≤ length old →
        newer ≡ take (r * 2 * n) new ++ (take n (drop (r * t.stride) top) ++ drop (r * 2 * n + n) new) →
        newest ≡ take (r * 2 * n + n) newer ++ (take n (drop (r * b.stride) bottom) ++ drop (r * 2 * n + n + n) newer) →
        Stacked (woven_rows top t bottom b) n (t.height * 2) old newest ((r + 1) * 2)
    two_lines {old} {new} {newer} {newest} r s inside room first second =
        let h : r < t.height = omega (arith, all) in
        let rows = woven_rows top t bottom b in
        let enough : t.height * 2 * n ≤ length old = rw e room in
        let upper : take n (drop (r * t.stride) top) ≡ rows (r * 2) = ap (λ (k : ℕ). take k (drop (r * t.stride) top)) e ∙ even_row r h in
        let lower : take n (drop (r * b.stride) bottom) ≡ rows (r * 2 + 1) =
        ap (λ (k : ℕ). take k (drop (r * b.stride) bottom)) (e ∙ sym same_size) ∙ odd_row r h in
        let one : Stacked rows n (t.height * 2) old newer (r * 2 + 1) = stacks_part wide s (omega arith) enough refl upper first in
        let at : r * 2 * n + n ≡ (r * 2 + 1) * n = rw (add-one, suc-mul) in
        let turn : r * 2 + 1 + 1 ≡ (r + 1) * 2 = omega arith in
        rw turn at (stacks_part wide one (omega arith) enough at lower second)

    pub all_lines :
        {old new : List ℕ} (r : ℕ) →
        Stacked (woven_rows top t bottom b) n (t.height * 2) old new (r * 2) → height ≤ r → new ≡ over (woven_plane top t bottom b) old
    all_lines {old} {new} r s h = stack_ends wide s (omega (arith, all)) ∙ ap (λ (l : List ℕ). over l old) rows_laid
