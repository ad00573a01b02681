-- The loop keeps `Stacked` of the rows passed.
use Rattle.laws.proofs.Lists.{Stacked}
use Rattle.readback.proofs.Rows.{row_made}
use Rattle.readback.proofs.copy_rows.Given as goal

abbrev pub invariant-loop-y : goal.invariant-loop-y
invariant-loop-y l =
    Stacked (row_made l.kind l.plane l.width l.stride l.taken l.lane l.right) l.size l.height l.initial.out l.out l.y
