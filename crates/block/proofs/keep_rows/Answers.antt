-- The loop keeps `Stacked` of the rows passed.
use mathlib.Core.Path.{refl}
use native.Mathlib.Omega.{arith}
use Rattle.laws.proofs.Lists.{length_listed, stack_starts, stacks, stack_ends}
use Rattle.block.specs.Block.{kept_frame}
use Rattle.block.proofs.keep_rows.Goals as goal

pub loop-y-init : goal.loop-y-init
loop-y-init c = stack_starts (λ y. length_listed _ _)

pub loop-y-preserved : goal.loop-y-preserved
loop-y-preserved c =
    rw c.from-width.ensures (stacks (λ y. length_listed _ _) c.loop-y.invariant (omega arith) c.requires.roomy refl c.keep_row.ensures)

pub returns : goal.returns
unfolding kept_frame
returns c = stack_ends (λ y. length_listed _ _) c.loop-y.invariant (omega arith)
