-- The loop keeps `Filled` of the columns passed.
use lib.ListN.{get_or}
use Rattle.laws.proofs.Lists.{Filled}
use Rattle.block.proofs.keep_bytes.Given as goal

abbrev pub invariant-loop-x : goal.invariant-loop-x
invariant-loop-x l = Filled (λ x. get_or l.row x 0) l.initial.to l.to l.x
