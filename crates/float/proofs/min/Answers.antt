-- `float::min` meets its contract: the code's `a != a` is the definition's `is_nan a`.
use Rattle.float.specs.Float.{min_of}
use Rattle.float.proofs.Order.{nan_test}
use Rattle.float.proofs.min.Goals as goal

pub returns-then-b-a : goal.returns-then-b-a
unfolding min_of
returns-then-b-a c = simp (rw nan_test at c.if-b-a.true)

pub returns-else-b-a : goal.returns-else-b-a
unfolding min_of
returns-else-b-a c = simp (rw nan_test at c.if-b-a.false)
