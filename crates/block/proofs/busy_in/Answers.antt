-- The loop keeps `Summed` of the blocks passed.
use Prim.Native.Nat.{ℕ, ◌*◌}
use mathlib.Core.Path.{ap, ◌∙◌}
use native.Mathlib.Omega.{arith}
use lib.Dec.{ltb}
use lib.ListN.{get_or}
use Rattle.laws.proofs.Sums.{starts, adds}
use Rattle.block.specs.Block.{one_if}
use Rattle.block.proofs.busy_in.Goals as goal

pub loop-b-init : goal.loop-b-init
loop-b-init c = starts _ _ _

pub loop-b-preserved : goal.loop-b-preserved
loop-b-preserved c =
    let l = c.loop-b in
    let a = c.args in
    adds l.invariant (omega arith) c.busy_if-busy.ensures.1
    (c.busy_if-busy.ensures.0 ∙ ap (λ (n : ℕ). one_if (ltb (n * a.rows) (4 * get_or a.counters.now l.b 0))) (omega arith))
