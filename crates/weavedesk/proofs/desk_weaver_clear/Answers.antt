use mathlib.Core.Path.{refl}
use borrow.Author.Tests.{le-leb, lt-leb}
use Rattle.laws.specs.Refusal.{lowest}
use Rattle.weavedesk.proofs.desk_weaver_clear.Goals as goal

pub returns-then-state-lt-STATE_BYTES-clause-value : goal.returns-then-state-lt-STATE_BYTES-clause-value
unfolding lowest
returns-then-state-lt-STATE_BYTES-clause-value c = simp (lt-leb _ _ c.if-state-lt-STATE_BYTES.true) c.number.ensures

pub returns-clause-value : goal.returns-clause-value
unfolding lowest
returns-clause-value c = simp (le-leb _ _ c.if-state-lt-STATE_BYTES.false) refl
