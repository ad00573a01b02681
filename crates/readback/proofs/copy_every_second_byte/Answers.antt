-- The loop keeps `Filled` of the columns passed.
use mathlib.Core.Path.{refl}
use native.Mathlib.Omega.{arith}
use Rattle.laws.proofs.Lists.{fill_starts, fills, fill_lays}
use Rattle.readback.proofs.copy_every_second_byte.Goals as goal

pub loop-x-init : goal.loop-x-init
loop-x-init c = fill_starts

pub overflow_mul-to : goal.overflow_mul-to
overflow_mul-to c = omega arith

pub overflow_add-to : goal.overflow_add-to
overflow_add-to c = omega arith

pub bounds-row-x : goal.bounds-row-x
bounds-row-x c = omega arith

pub bounds-to-x : goal.bounds-to-x
bounds-to-x c = omega arith

pub loop-x-preserved : goal.loop-x-preserved
loop-x-preserved c = fills c.loop-x.invariant (omega arith) refl

pub returns : goal.returns
returns c = fill_lays c.loop-x.invariant c.loop-x-test.false c.requires.0.target
