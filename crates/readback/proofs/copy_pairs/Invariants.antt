-- The loop keeps `Stacked` of the columns passed.
use Rattle.laws.proofs.Lists.{Stacked}
use Rattle.readback.specs.Inner.{pair_in}
use Rattle.readback.proofs.copy_pairs.Given as goal

abbrev pub invariant-loop-x : goal.invariant-loop-x
invariant-loop-x g l = Stacked (pair_in g.row.STEP l.row l.lane l.right) 2 l.width l.initial.to l.to l.x
