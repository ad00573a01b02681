use mathlib.Core.Path.{refl}
use native.Mathlib.Omega.{arith}
use Rattle.answers.specs.Record.{every}
use Rattle.answers.specs.Floats.{same_floats}
use Rattle.answers.proofs.Every.{floats_more, floats_end}
use borrow.Author.Tests.{lt-leb}
use Rattle.answers.proofs.same_floats.Goals as goal

pub returns-then-floats-gt4096 : goal.returns-then-floats-gt4096
unfolding same_floats
returns-then-floats-gt4096 c = simp (lt-leb _ _ c.if-floats-gt4096.true)

pub loop-i-init : goal.loop-i-init
unfolding every
loop-i-init c = refl

pub loop-i-preserved : goal.loop-i-preserved
loop-i-preserved c =
    let a = c.args in
    floats_more a.floats.now a.bytes.now _ _ _ _ c.loop-i.invariant c.same_float-same.ensures c.number_at.ensures

pub returns : goal.returns
returns c = floats_end _ _ _ _ c.if-floats-gt4096.false c.loop-i.invariant (omega arith)
