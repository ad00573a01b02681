use borrow.Author.Tests.{eq-eqb, ne_eqb}
use mir.Syntax.{w64}
use Rattle.answers.specs.Record.{signed_of}
use Rattle.laws.proofs.Below.{plain, less_read}
use Rattle.answers.proofs.Folded.{power, cut_below}
use Rattle.answers.proofs.unfolded.Goals as goal

pub returns-then-number-eq0 : goal.returns-then-number-eq0
unfolding signed_of
returns-then-number-eq0 c =
    rw (power c.args.bits c.requires) (simp (eq-eqb _ _ c.if-number-eq0.true) (plain w64 _ (cut_below c.args.number c.args.bits c.requires)))

pub returns-else-number-eq0 : goal.returns-else-number-eq0
unfolding signed_of
returns-else-number-eq0 c =
    rw (power c.args.bits c.requires) (simp (ne_eqb _ _ c.if-number-eq0.false) (less_read w64 _ (cut_below c.args.number c.args.bits c.requires)))
