use Prim.Native.Nat.{ℕ, ◌+◌, ◌*◌, ◌≤◌}
use mathlib.Core.Path.{sym, ap, ◌∙◌}
use native.Mathlib.Omega.{arith}
use lib.ListN.{length}
use Rattle.plane.proofs.Bounds.{good_within}
use Rattle.plane.specs.Plane.{grid_shape}
use Rattle.laws.proofs.Lists.{part_length}
use Rattle.block.proofs.Rows.{row_within, row_copied, pair_row_size, pairs_kept}
use Rattle.block.proofs.keep_row.Goals as goal

pub returns-then-grid-le8 : goal.returns-then-grid-le8
returns-then-grid-le8 c =
    let a = c.args in
    c.keep_bytes.ensures
    ∙ row_copied c.byte_row.result.now a.plane.now (grid_shape a.grid) a.y c.byte_row.ensures c.requires.1

pub keep_deep-requires : goal.keep_deep-requires
keep_deep-requires c =
    let a = c.args in
    let ends : a.y * a.grid.stride + a.grid.width * 2 ≤ length a.plane.now =
    omega (
      arith,
      row_within (grid_shape a.grid) (length a.plane.now) a.y c.requires.0.long c.requires.0.inner,
      pair_row_size a.grid c.if-grid-le8.false,
    ) in (
      ap length (rw c.from-bytes.ensures at c.part_at.ensures)
          ∙ part_length a.plane.now (a.y * a.grid.stride) (a.grid.width * 2) ends
          ∙ ap (λ (n : ℕ). n * 2) (sym c.requires.1),
      omega arith,
      omega (arith, (good_within (grid_shape a.grid) c.requires.0.good).depth_most),
    )

pub returns : goal.returns
returns c =
    let a = c.args in
    rw c.from-right.ensures at c.keep_deep.ensures
    ∙ pairs_kept a.grid c.if-grid-le8.false (good_within (grid_shape a.grid) c.requires.0.good).depth_most a.plane.now a.y
    (rw c.from-bytes.ensures at c.part_at.ensures) c.requires.1
