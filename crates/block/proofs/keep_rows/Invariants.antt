-- The loop keeps `Stacked` of the rows passed.
use Rattle.laws.specs.Rows.{listed}
use Rattle.laws.proofs.Lists.{Stacked}
use Rattle.plane.specs.Plane.{grid_shape}
use Rattle.block.specs.Block.{kept_of}
use Rattle.block.proofs.keep_rows.Given as goal

abbrev pub invariant-loop-y : goal.invariant-loop-y
invariant-loop-y l =
    Stacked (λ y. listed l.grid.width (λ x. kept_of l.plane (grid_shape l.grid) x y)) l.grid.width l.grid.height l.initial.store l.store l.y
