-- The loop keeps `Filled` of the columns passed.
use mathlib.Core.Path.{refl}
use native.Mathlib.Omega.{arith}
use Rattle.laws.proofs.Lists.{fill_starts, fills}
use Rattle.block.proofs.keep_bytes.Goals as goal

pub loop-x-init : goal.loop-x-init
loop-x-init c = fill_starts

pub loop-x-preserved : goal.loop-x-preserved
loop-x-preserved c = fills c.loop-x.invariant (omega arith) refl
