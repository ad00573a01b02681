-- The loop keeps `Summed` of the columns passed.
use lib.ListN.{length, get_or}
use Rattle.laws.proofs.Sums.{Summed}
use Rattle.block.specs.Block.{one_if, differs}
use Rattle.block.proofs.differ_in.Given as goal

abbrev pub invariant-loop-new : goal.invariant-loop-new
invariant-loop-new l = Summed 1 (λ x. one_if (differs (get_or l.a x 0) (get_or l.b x 0))) (length l.a) l.n (length l.yielded)
