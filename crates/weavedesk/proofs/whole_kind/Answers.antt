use mathlib.Core.Path.{sym}
use mathlib.Core.Bool.{true, false}
use Rattle.weavedesk.proofs.Times.{test_read, below_kind, above_kind}
use Rattle.weavedesk.proofs.whole_kind.Goals as goal

pub returns-then-at-lt0 : goal.returns-then-at-lt0
returns-then-at-lt0 c = sym (below_kind c.args.at (test_read c.args.at c.ranges.at true c.if-at-lt0.true))

pub returns-else-at-lt0 : goal.returns-else-at-lt0
returns-else-at-lt0 c = sym (above_kind c.args.at (test_read c.args.at c.ranges.at false c.if-at-lt0.false))
