-- The loop keeps `Summed` of the blocks passed.
use Prim.Native.Nat.{◌*◌}
use lib.Dec.{ltb}
use lib.ListN.{get_or}
use Rattle.laws.proofs.Sums.{Summed}
use Rattle.block.specs.Block.{one_if, columns_in, blocks_across}
use Rattle.block.proofs.busy_in.Given as goal

abbrev pub invariant-loop-b : goal.invariant-loop-b
invariant-loop-b l =
    Summed 1 (λ b. one_if (ltb (columns_in l.width b * l.rows) (4 * get_or l.counters b 0))) (blocks_across l.width) l.busy l.b
