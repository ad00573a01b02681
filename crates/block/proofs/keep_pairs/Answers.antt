-- The loop keeps `Filled` of the columns passed.
use Prim.Native.Nat.{ℕ, ◌+◌, ◌*◌, ◌/◌, ◌^◌, min}
use mathlib.Core.Path.{ap, ◌∙◌}
use native.Mathlib.Nat.{mod-eq_of_lt}
use native.Mathlib.Omega.{arith}
use Rattle.laws.proofs.Lists.{fill_starts, fills}
use Rattle.block.proofs.keep_pairs.Goals as goal

pub loop-x-init : goal.loop-x-init
loop-x-init c = fill_starts

pub loop-x-preserved : goal.loop-x-preserved
loop-x-preserved c =
    let low = c.from.ensures in
    let high = c.from-in-loop-x.ensures in
    fills c.loop-x.invariant (omega arith)
    (c.modulo_256.ensures.0
    ∙ mod-eq_of_lt (omega arith)
    ∙ c.min.ensures
    ∙ ap (λ (n : ℕ). min n 255) c.upper.ensures
    ∙ (λ i. min ((low i + 256 * high i) / 2 ^ c.args.right) 255))
