-- Planes and fields packed: how long they are, that a packed line is the plane's own, and that each packed plane can be woven where its plane
-- can.
use Prim.Native.Nat.{ℕ, ◌+◌, ◌-◌, ◌*◌, ◌≤◌, ◌<◌}
use mathlib.Core.Path.{◌≡◌, refl, sym, ap, ◌∙◌}
use mathlib.Core.Bool.{true, ◌&&◌}
use mathlib.Core.List.{List, ◌++◌, append_assoc}
use native.Mathlib.Nat.{mul-one, suc-mul, le_of_eq}
use native.Mathlib.Omega.{arith}
use lib.Dec.{leb}
use lib.ListN.{length, take, drop, length-append}
use borrow.Author.Tests.{le-leb}
use Rattle.laws.proofs.Bools.{halves}
use Rattle.laws.specs.Rows.{laid, over}
use Rattle.laws.proofs.Lists.{length_laid, laid_row, over_then, Stacked, stack_starts, stacks, part_length, clamped, clamped_wide, clamped_row, clamped_laid}
use Rattle.laws.proofs.Rows.{row_within, stack_fills}
use Rattle.plane.specs.Plane.{grid_shape, sample_bytes, good_shape, plane_bytes}
use Rattle.plane.proofs.Bounds.{good_within}
use Rattle.plane.specs.declared.Grid.{Grid}
use Rattle.weave.specs.Weave.{Given, line_bytes, good_lines, line_in}
use Rattle.weave.proofs.Fields.{bounded, line_within}
use Rattle.weave.proofs.Judged.{Half}
use Rattle.weaver.specs.Weaver.{packed_lines, packed_plane, packed_field, luma_bytes_of, chroma_bytes, field_bytes}
use Rattle.weaver.specs.Inner.{Packable}

-- ---- a plane

pub row_size : (l : Grid) → line_bytes l ≡ l.width * sample_bytes l.depth
row_size l = ap (λ (n : ℕ). n * sample_bytes l.depth) (mul-one l.width)

abbrev pub packed_rows : List ℕ → Grid → ℕ → List ℕ
packed_rows bytes l = clamped (line_in bytes l) (l.height - 1)

module _ (bytes : List ℕ) (l : Grid) (good : good_lines l ≡ true) (long : plane_bytes (grid_shape l) ≤ length bytes) where
  some_row : 1 ≤ l.height
  some_row = (bounded l good).height_least

  pub line_ends_lem : (y : ℕ) → y < l.height → y * l.stride + l.width * sample_bytes l.depth ≤ length bytes
  line_ends_lem y h = rw (← row_size l) (line_within l (length bytes) y long h)

  pub rows_wide : (y : ℕ) → length (packed_rows bytes l y) ≡ l.width * sample_bytes l.depth
  rows_wide y =
      clamped_wide (line_in bytes l) (l.height - 1) (line_bytes l)
      (λ r h. part_length bytes (r * l.stride) (line_bytes l) (line_within l (length bytes) r long (omega (arith, some_row)))) y
      ∙ row_size l

  pub row_is : (y : ℕ) → y < l.height → take (l.width * sample_bytes l.depth) (drop (y * l.stride) bytes) ≡ packed_rows bytes l y
  row_is y h =
      ap (λ (n : ℕ). take n (drop (y * l.stride) bytes)) (sym (row_size l)) ∙ sym (clamped_row (line_in bytes l) (l.height - 1) y (omega arith))

  pub rows_laid : laid l.height (packed_rows bytes l) ≡ packed_plane bytes l
  unfolding packed_plane
  rows_laid = clamped_laid (line_in bytes l) (l.height - 1) l.height (omega (arith, some_row))

  pub packed_long : length (packed_plane bytes l) ≡ luma_bytes_of l.width l.height l.depth
  packed_long = sym (ap length rows_laid) ∙ length_laid (packed_rows bytes l) (l.width * sample_bytes l.depth) rows_wide l.height

  -- a line of the packed plane is the plane's own
  pub packed_line : (y : ℕ) → y < l.height → line_in (packed_plane bytes l) (packed_lines l.width l.height l.depth) y ≡ line_in bytes l y
  packed_line y h =
      let size = l.width * sample_bytes l.depth in
      ap (λ (n : ℕ). take n (drop (y * size) (packed_plane bytes l))) (row_size l)
      ∙ ap (λ (plane : List ℕ). take size (drop (y * size) plane)) (sym rows_laid)
      ∙ laid_row (packed_rows bytes l) size rows_wide l.height y h
      ∙ clamped_row (line_in bytes l) (l.height - 1) y (omega arith)

-- ---- a loop that packs a row of n bytes in a turn
module _ (plane : List ℕ) (l : Grid) (part : ℕ) (p : Packable part (length plane) l) {n height : ℕ}
    (e : n ≡ l.width * sample_bytes l.depth) (all : height ≡ l.height) where
  wide : (y : ℕ) → length (packed_rows plane l y) ≡ n
  wide y = rows_wide plane l p.good p.long y ∙ sym e

  roomy : l.height * n ≤ part
  roomy = rw e (le_of_eq (sym p.exact))

  -- where a turn's row ends
  pub turn_ends :
      {old new : List ℕ} (y : ℕ) →
      Stacked (packed_rows plane l) n l.height old new y → y < height → length old ≡ part → (y * n + n ≤ length new) × (y * l.stride + n ≤ length plane)
  turn_ends y s inside same =
      let h : y < l.height = omega (arith, all) in
      (omega (arith, row_within y l.height n part h roomy, s.long), rw e (line_ends_lem plane l p.good p.long y h))

  pub no_row : {old : List ℕ} → Stacked (packed_rows plane l) n l.height old old 0
  no_row = stack_starts wide

  pub one_row :
      {old new row : List ℕ} (y : ℕ) →
      Stacked (packed_rows plane l) n l.height old new y → y < height → length old ≡ part → row ≡ take n (drop (y * l.stride) plane) →
      Stacked (packed_rows plane l) n l.height old (take (y * n) new ++ (row ++ drop (y * n + n - y * n) (drop (y * n) new))) (y + 1)
  one_row y s inside same line =
      let h : y < l.height = omega (arith, all) in
      stacks wide s h (rw same roomy) refl
      (line ∙ ap (λ (k : ℕ). take k (drop (y * l.stride) plane)) e ∙ row_is plane l p.good p.long y h)

  pub all_rows :
      {old new : List ℕ} (y : ℕ) → Stacked (packed_rows plane l) n l.height old new y → height ≤ y → length old ≡ part → new ≡ packed_plane plane l
  all_rows {old} {new} y s h same =
      stack_fills wide s (omega (arith, all)) (same ∙ p.exact ∙ ap (λ (k : ℕ). l.height * k) (sym e)) ∙ rows_laid plane l p.good p.long

-- a plane within the bounds is within them packed
pub packed_good : (l : Grid) → good_lines l ≡ true → good_lines (packed_lines l.width l.height l.depth) ≡ true
unfolding good_shape
packed_good l h =
    let both = halves (good_shape (grid_shape l)) (leb l.height 2176) h in
    let w = good_within (grid_shape l) both.0 in
    let size = l.width * sample_bytes l.depth in
    let fits : line_bytes l ≤ size = le_of_eq (row_size l) in
    let small : size ≤ 65536 = omega (arith, row_size l, w.row_fits, w.stride_most) in
    λ i.
    le-leb 1 l.width w.width_least i
    && le-leb l.width 8192 w.width_most i
    && le-leb 1 l.height w.height_least i
    && le-leb l.height 4352 w.height_most i
    && le-leb 8 l.depth w.depth_least i
    && le-leb l.depth 16 w.depth_most i
    && le-leb size 65536 small i
    && le-leb (line_bytes l) size fits i
    && both.1 i

-- it needs no more bytes than it has
pub packed_whole : (width height depth : ℕ) → 1 ≤ height → plane_bytes (grid_shape (packed_lines width height depth)) ≤ luma_bytes_of width height depth
packed_whole width height depth h =
    let size = width * sample_bytes depth in
    let rows : (height - 1) * size + size ≡ height * size =
    sym (suc-mul (height - 1) size) ∙ ap (λ (n : ℕ). n * size) (omega (arith, h)) in
    omega (arith, rows, row_size (packed_lines width height depth))

-- ---- a field

-- a chroma plane has the bytes that the store gives it
pub chroma_size :
    (luma chroma : Grid) → Half (grid_shape luma) (grid_shape chroma)
    → luma_bytes_of chroma.width chroma.height chroma.depth ≡ chroma_bytes luma.width luma.height luma.depth
chroma_size luma chroma h = rw (h.across, h.down, h.deep)

-- what the tests of a field say of its planes
pub record Sound (g : Given) : Type 0 where
  pub luma_good : good_lines g.shape.luma ≡ true
  pub cb_good : good_lines g.shape.cb ≡ true
  pub cr_good : good_lines g.shape.cr ≡ true
  pub luma_long : plane_bytes (grid_shape g.shape.luma) ≤ length g.luma
  pub cb_long : plane_bytes (grid_shape g.shape.cb) ≤ length g.cb
  pub cr_long : plane_bytes (grid_shape g.shape.cr) ≤ length g.cr
  pub cb_half : Half (grid_shape g.shape.luma) (grid_shape g.shape.cb)
  pub cr_half : Half (grid_shape g.shape.luma) (grid_shape g.shape.cr)

module _ (g : Given) (s : Sound g) where
  abbrev luma_size : ℕ
  luma_size = luma_bytes_of g.shape.luma.width g.shape.luma.height g.shape.luma.depth

  abbrev chroma_bytes_lem : ℕ
  chroma_bytes_lem = chroma_bytes g.shape.luma.width g.shape.luma.height g.shape.luma.depth

  pub luma_packed : length (packed_plane g.luma g.shape.luma) ≡ luma_size
  luma_packed = packed_long g.luma g.shape.luma s.luma_good s.luma_long

  pub cb_packed : length (packed_plane g.cb g.shape.cb) ≡ chroma_bytes_lem
  cb_packed = packed_long g.cb g.shape.cb s.cb_good s.cb_long ∙ chroma_size g.shape.luma g.shape.cb s.cb_half

  pub cr_packed : length (packed_plane g.cr g.shape.cr) ≡ chroma_bytes_lem
  cr_packed = packed_long g.cr g.shape.cr s.cr_good s.cr_long ∙ chroma_size g.shape.luma g.shape.cr s.cr_half

  pub field_packed : length (packed_field g) ≡ field_bytes g.shape.luma.width g.shape.luma.height g.shape.luma.depth
  unfolding packed_field
  field_packed =
      rw (length-append, length-append, luma_packed, cb_packed, cr_packed)

  -- the store after each of the three planes
  pub packs :
      {a b : ℕ} (old one two three : List ℕ) → a ≡ luma_size → b ≡ chroma_bytes_lem
      → one ≡ take 0 old ++ (packed_plane g.luma g.shape.luma ++ drop (0 + a) old)
      → two ≡ take a one ++ (packed_plane g.cb g.shape.cb ++ drop (a + b) one)
      → three ≡ take (a + b) two ++ (packed_plane g.cr g.shape.cr ++ drop (a + b + b) two)
      → three ≡ over (packed_field g) old
  unfolding packed_field
  packs {a} {b} old one two three e f first second third =
      let luma = packed_plane g.luma g.shape.luma in
      let cb = packed_plane g.cb g.shape.cb in
      let cr = packed_plane g.cr g.shape.cr in
      let at-cb : length luma ≡ a = luma_packed ∙ sym e in
      let cb-size : length cb ≡ b = cb_packed ∙ sym f in
      let at-cr : length (luma ++ cb) ≡ a + b = length-append luma cb ∙ (λ i. at-cb i + cb-size i) in
      let behind : 0 + a ≡ length luma = omega (arith, at-cb) in
      let with-luma : one ≡ over luma old = first ∙ ap (λ (n : ℕ). luma ++ drop n old) behind in
      let with-cb : two ≡ over (luma ++ cb) old =
      second ∙ ap (λ (l : List ℕ). take a l ++ (cb ++ drop (a + b) l)) with-luma ∙ over_then luma cb old a b at-cb cb-size in
      third
      ∙ ap (λ (l : List ℕ). take (a + b) l ++ (cr ++ drop (a + b + b) l)) with-cb
      ∙ over_then (luma ++ cb) cr old (a + b) b at-cr (cr_packed ∙ sym f)
      ∙ ap (λ (l : List ℕ). over l old) (append_assoc luma cb cr)
