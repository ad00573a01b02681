-- A packed plane weaves as the plane itself, and a store that begins with a packed field keeps that field.
use Prim.Native.Nat.{ℕ, ◌+◌, ◌*◌, ◌/◌, ◌%◌, ◌≤◌}
use native.Mathlib.Omega.{arith}
use mathlib.Core.Path.{◌≡◌, sym, ap, ◌∙◌}
use mathlib.Core.Bool.{true, cond}
use mathlib.Core.List.{List, ◌++◌}
use lib.Dec.{eqb}
use lib.ListN.{length, take, drop}
use Rattle.laws.proofs.Lists.{part_one, part_two, part_three, same_laid}
use Rattle.field.specs.declared.Parity.{Parity}
use Rattle.field.specs.declared.Parity.TheVariants.{Top, Bottom}
use Rattle.plane.specs.Plane.{grid_shape, plane_bytes, half}
use Rattle.plane.specs.declared.Grid.{Grid}
use Rattle.weave.specs.Weave.{Given, good_lines, line_in, woven_line, woven_plane}
use Rattle.weave.proofs.Judged.{Half}
use Rattle.weaver.specs.Weaver.{packed_lines, packed_plane, packed_field, luma_bytes_of, chroma_bytes, woven_by}
use Rattle.weaver.proofs.Packed.{packed_line, Sound, luma_packed, cb_packed, cr_packed}

-- ---- planes
module _ (bytes : List ℕ) (l : Grid) (good : good_lines l ≡ true) (long : plane_bytes (grid_shape l) ≤ length bytes) (other : List ℕ) (o : Grid) where
  abbrev packed : List ℕ
  packed = packed_plane bytes l

  abbrev lines : Grid
  lines = packed_lines l.width l.height l.depth

  as_top : woven_plane packed lines other o ≡ woven_plane bytes l other o
  unfolding woven_plane woven_line
  as_top =
      same_laid (l.height * 2) (woven_line packed lines other o) (woven_line bytes l other o)
      (λ y h.
      ap (λ (line : List ℕ). cond (eqb (y % 2) 0) line (line_in other o (y / 2))) (packed_line bytes l good long (y / 2) (omega arith)))

  as_bottom : o.height ≡ l.height → woven_plane other o packed lines ≡ woven_plane other o bytes l
  unfolding woven_plane woven_line
  as_bottom e =
      same_laid (o.height * 2) (woven_line other o packed lines) (woven_line other o bytes l)
      (λ y h.
      ap (λ (line : List ℕ). cond (eqb (y % 2) 0) (line_in other o (y / 2)) line) (packed_line bytes l good long (y / 2) (omega (arith, e))))

  woven_packed : (parity : Parity) → o.height ≡ l.height → woven_by parity packed lines other o ≡ woven_by parity bytes l other o
  woven_packed Top e = as_top
  woven_packed Bottom e = as_bottom e

-- ---- the planes of a field that a store begins with
module _ (g : Given) (s : Sound g) (rest : List ℕ) (parity : Parity) (other : List ℕ) (o : Grid) where
  abbrev l : Grid
  l = g.shape.luma

  abbrev a : ℕ
  a = luma_bytes_of l.width l.height l.depth

  abbrev b : ℕ
  b = chroma_bytes l.width l.height l.depth

  abbrev store : List ℕ
  store = packed_field g ++ rest

  abbrev chroma : Grid
  chroma = packed_lines (half l.width) (half l.height) l.depth

  pub luma_woven :
      o.height ≡ l.height
      → woven_by parity (take a store) (packed_lines l.width l.height l.depth) other o ≡ woven_by parity g.luma l other o
  unfolding packed_field
  luma_woven e =
      let part : take a store ≡ packed_plane g.luma l =
      part_one (packed_plane g.luma l) (packed_plane g.cb g.shape.cb) (packed_plane g.cr g.shape.cr) rest a (luma_packed g s) in
      ap (λ (bytes : List ℕ). woven_by parity bytes (packed_lines l.width l.height l.depth) other o) part
      ∙ woven_packed g.luma l s.luma_good s.luma_long other o parity e

  half_lines : (c : Grid) → Half (grid_shape l) (grid_shape c) → chroma ≡ packed_lines c.width c.height c.depth
  half_lines c h = sym (λ i. packed_lines (h.across i) (h.down i) (h.deep i))

  pub cb_woven :
      o.height ≡ g.shape.cb.height → woven_by parity (take b (drop a store)) chroma other o ≡ woven_by parity g.cb g.shape.cb other o
  unfolding packed_field
  cb_woven e =
      let part : take b (drop a store) ≡ packed_plane g.cb g.shape.cb =
      part_two (packed_plane g.luma l) (packed_plane g.cb g.shape.cb) (packed_plane g.cr g.shape.cr) rest a b (luma_packed g s) (cb_packed g s) in
      let lines = half_lines g.shape.cb s.cb_half in
      (λ i. woven_by parity (part i) (lines i) other o) ∙ woven_packed g.cb g.shape.cb s.cb_good s.cb_long other o parity e

  pub cr_woven :
      o.height ≡ g.shape.cr.height → woven_by parity (take b (drop (a + b) store)) chroma other o ≡ woven_by parity g.cr g.shape.cr other o
  unfolding packed_field
  cr_woven e =
      let part : take b (drop (a + b) store) ≡ packed_plane g.cr g.shape.cr =
      part_three (packed_plane g.luma l) (packed_plane g.cb g.shape.cb) (packed_plane g.cr g.shape.cr) rest a b b (luma_packed g s) (cb_packed g s)
      (cr_packed g s) in
      let lines = half_lines g.shape.cr s.cr_half in
      (λ i. woven_by parity (part i) (lines i) other o) ∙ woven_packed g.cr g.shape.cr s.cr_good s.cr_long other o parity e
