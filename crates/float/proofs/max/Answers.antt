-- `float::max` meets its contract: the code's `a != a` is the definition's `is_nan a`.
use Rattle.float.specs.Float.{max_of}
use Rattle.float.proofs.Order.{nan_test}
use Rattle.float.proofs.max.Goals as goal

pub returns-then-a-b : goal.returns-then-a-b
unfolding max_of
returns-then-a-b c = simp (rw nan_test at c.if-a-b.true)

pub returns-else-a-b : goal.returns-else-a-b
unfolding max_of
returns-else-a-b c = simp (rw nan_test at c.if-a-b.false)
