use Prim.Native.Nat.{◌+◌, ◌*◌, ◌≤◌}
use native.Mathlib.Omega.{arith}
use lib.ListN.{length}
use Rattle.plane.specs.Plane.{grid_shape}
use Rattle.block.proofs.Rows.{row_within, byte_row_size, byte_row_kept}
use Rattle.block.proofs.byte_row.Goals as goal

pub returns : goal.returns
returns c =
    let a = c.args in
    let ends : a.y * a.grid.stride + a.grid.width ≤ length a.plane.now =
    omega (arith, row_within (grid_shape a.grid) (length a.plane.now) a.y c.requires.0.long c.requires.0.inner, byte_row_size a.grid c.requires.1) in
    byte_row_kept a.grid c.requires.1 a.plane.now a.y (λ i. omega (arith, c.type_inv.plane i)) ends (rw c.from.ensures at c.part_at.ensures)
