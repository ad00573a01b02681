use borrow.Author.Tests.{eq-eqb, ne_eqb}
use Rattle.field.proofs.Parity.named.Goals as goal

pub returns-then-first_row-eq0 : goal.returns-then-first_row-eq0
returns-then-first_row-eq0 c = simp (eq-eqb _ _ c.if-first_row-eq0.true)

pub returns-else-first_row-eq0 : goal.returns-else-first_row-eq0
returns-else-first_row-eq0 c = simp (ne_eqb _ _ c.if-first_row-eq0.false)
