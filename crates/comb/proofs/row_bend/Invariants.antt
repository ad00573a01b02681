-- The loop keeps `Summed` of the columns passed.
use Rattle.laws.proofs.Sums.{Summed}
use Rattle.comb.specs.Rows.{bend_in}
use Rattle.comb.proofs.row_bend.Given as goal

abbrev pub invariant-loop-x : goal.invariant-loop-x
invariant-loop-x g l = Summed 131070 (bend_in g.C.Coding.kind l.fn.rows.up.now l.fn.rows.here.now l.fn.rows.down.now) l.width l.sum l.x
