-- The loop keeps `Summed` of the columns passed.
use Rattle.laws.proofs.Sums.{starts, adds}
use Rattle.comb.proofs.Rows.{same_bend}
use Rattle.comb.proofs.row_bend.Goals as goal

pub loop-x-init : goal.loop-x-init
loop-x-init g c = starts _ _ _

pub loop-x-preserved : goal.loop-x-preserved
loop-x-preserved g c =
    adds c.loop-x.invariant c.loop-x-test.true c.bend-sum.ensures.1
    (same_bend c.bend-sum.ensures.0 c.code.ensures.0 c.code-in-loop-x.ensures.0 c.code-in-loop-x-2.ensures.0)
