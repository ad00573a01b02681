-- The loop keeps `Summed` of the columns passed, once for each half.
use Prim.Native.Nat.{◌+◌}
use lib.ListN.{get_or}
use Rattle.laws.proofs.Sums.{Summed}
use Rattle.comb.proofs.sum_of.Given as goal

abbrev pub invariant-loop-x : goal.invariant-loop-x
invariant-loop-x l =
    Summed 65535 (λ k. get_or l.columns k 0) 128 l.left l.x × Summed 65535 (λ k. get_or l.columns (128 + k) 0) 128 l.right l.x
