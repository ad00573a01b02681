use mathlib.Core.Path.{◌≡◌, sym, ap, ◌∙◌}
use Prim.Native.Nat.{ℕ, ◌+◌, ◌*◌}
use native.Mathlib.Omega.{arith}
use lib.ListN.{length}
use Rattle.laws.proofs.Rows.{length_part, row_within}
use Rattle.plane.specs.Plane.{half}
use Rattle.picture.specs.Inner.{painted_row}
use Rattle.picture.proofs.Painted.{length_painted}
use Rattle.picture.proofs.Tiles.{tile_row}
use Rattle.picture.proofs.paint_rows.Goals as goal

pub paint_row-requires : goal.paint_row-requires
paint_row-requires c =
    let l = c.loop-y in
    let row = c.row.ensures in
    let long = row.luma.1 in
    let ends = row_within l.y c.args.place.height c.args.stride (length l.out) (omega arith) (omega (arith, c.requires.tile_fits.rows_within, l.invariant.long)) in (
      omega (arith, long, c.requires.tile_fits.columns_high),
      length_part (l.y * c.args.stride + c.from-left.result * 4) (c.from-width.result * 4) l.out (omega (arith, ends, c.requires.tile_fits.columns_within))
          ∙ ap (λ (n : ℕ). n * 4) (sym long),
      row.cb.1 ∙ ap half (sym long),
      row.cr.1 ∙ ap half (sym long),
    )

pub loop-y-preserved : goal.loop-y-preserved
loop-y-preserved c =
    let l = c.loop-y in
    let row = c.row.ensures in
    let rows : c.from-y-end.result * c.args.stride ≡ c.args.place.height * c.args.stride = ap (λ (n : ℕ). n * c.args.stride) c.from-y-end.ensures in
    tile_row (omega (arith, c.requires.tile_fits.columns_within)) (omega (arith, rows, c.requires.tile_fits.rows_within)) l.invariant c.loop-y-test.true
    (c.paint_row.ensures
    ∙ (λ i. painted_row c.args.conversion (row.luma.1 i) (row.luma.0 i) (row.cb.0 i) (row.cr.0 i)))
    (length_painted _ _ _ _ _)
