-- `float::clamp` meets its contract: its tests are the definition's.
use Rattle.float.specs.Float.{clamp_of}
use Rattle.float.proofs.clamp.Goals as goal

pub returns-then-x-low : goal.returns-then-x-low
unfolding clamp_of
returns-then-x-low c = simp c.if-x-low.true

pub returns-then-high-x : goal.returns-then-high-x
unfolding clamp_of
returns-then-high-x c = simp (c.if-x-low.false, c.if-high-x.true)

pub returns-else-high-x : goal.returns-else-high-x
unfolding clamp_of
returns-else-high-x c = simp (c.if-x-low.false, c.if-high-x.false)
