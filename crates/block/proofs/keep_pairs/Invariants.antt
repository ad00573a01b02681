-- The loop keeps `Filled` of the columns passed.
use Rattle.laws.proofs.Lists.{Filled}
use Rattle.block.specs.Rows.{pair_kept}
use Rattle.block.proofs.keep_pairs.Given as goal

abbrev pub invariant-loop-x : goal.invariant-loop-x
invariant-loop-x l = Filled (pair_kept l.row l.right) l.initial.to l.to l.x
