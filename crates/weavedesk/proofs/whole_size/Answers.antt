use mathlib.Core.Path.{ap}
use lib.IntN.{nat_abs}
use Rattle.weavedesk.proofs.Times.{raised_fits, size_fits, size_read, plain_read, castable, size_small}
use Rattle.weavedesk.proofs.whole_size.Goals as goal

pub overflow_add-result : goal.overflow_add-result
overflow_add-result c = raised_fits c.args.at c.ranges.at c.if-at-lt0.true

pub overflow_sub-result : goal.overflow_sub-result
overflow_sub-result c = size_fits c.args.at c.ranges.at c.if-at-lt0.true

pub overflow_cast-result : goal.overflow_cast-result
overflow_cast-result c =
    castable _ _ (size_small c.args.at c.ranges.at) (size_read c.args.at c.ranges.at c.if-at-lt0.true)

pub overflow_cast-result-else-at-lt0 : goal.overflow_cast-result-else-at-lt0
overflow_cast-result-else-at-lt0 c =
    castable _ _ (size_small c.args.at c.ranges.at) (plain_read c.args.at c.ranges.at c.if-at-lt0.false)

pub returns-then-at-lt0 : goal.returns-then-at-lt0
returns-then-at-lt0 c = ap nat_abs (size_read c.args.at c.ranges.at c.if-at-lt0.true)

pub returns-else-at-lt0 : goal.returns-else-at-lt0
returns-else-at-lt0 c = ap nat_abs (plain_read c.args.at c.ranges.at c.if-at-lt0.false)
