-- The loop keeps `Stacked` of the numbers passed.
use mathlib.Core.Path.{refl, ◌∙◌}
use native.Mathlib.Omega.{arith}
use borrow.Author.Tests.{leb-true}
use Rattle.laws.proofs.Lists.{stack_starts, stacks, stack_ends}
use Rattle.packed.specs.Packed.{packed_of}
use Rattle.packed.proofs.Claims.{length_eight}
use Rattle.packed.proofs.Parts.{eight_written}
use Rattle.packed.proofs.write_numbers.Goals as goal

pub loop-k-init : goal.loop-k-init
loop-k-init c = stack_starts (λ k. length_eight _)

pub loop-k-preserved : goal.loop-k-preserved
loop-k-preserved c =
    stacks (λ k. length_eight _) c.loop-k.invariant c.loop-k-test.true (omega (arith, leb-true _ _ c.in_ok-unless.ensures)) refl (c.copy_from_slice.ensures.after ∙ c.to_le_bytes.ensures ∙ eight_written _)

pub returns-clause-bytes_after : goal.returns-clause-bytes_after
unfolding packed_of
returns-clause-bytes_after c = stack_ends (λ k. length_eight _) c.loop-k.invariant c.loop-k-test.false
