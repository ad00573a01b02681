-- The loop keeps `Stacked` of the columns passed.
use Prim.Native.Nat.{◌/◌, ◌%◌}
use mathlib.Core.Path.{refl}
use mathlib.Core.List.{[], ◌∷◌}
use native.Mathlib.Omega.{arith}
use Rattle.laws.proofs.Lists.{stack_starts, stacks_two}
use Rattle.laws.proofs.Rows.{stack_fills}
use Rattle.readback.proofs.copy_pairs.Goals as goal

pub loop-x-init : goal.loop-x-init
loop-x-init g c = stack_starts (λ x. refl)

pub loop-x-preserved : goal.loop-x-preserved
loop-x-preserved g c =
    stacks_two (λ x. refl) c.loop-x.invariant c.loop-x-test.true (omega arith)
    (λ i. c.word_at-word.ensures.0 i % 256 ∷ c.word_at-word.ensures.0 i / 256 ∷ [])

pub returns : goal.returns
returns g c = stack_fills (λ x. refl) c.loop-x.invariant c.loop-x-test.false c.requires.0.target
