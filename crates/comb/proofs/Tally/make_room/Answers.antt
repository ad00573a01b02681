use mathlib.Core.Path.{◌∙◌}
use native.Mathlib.Omega.{arith}
use lib.ListN.{length}
use Rattle.comb.proofs.Columns.{zeros_of, nothing_in}
use Rattle.comb.proofs.Tally.make_room.Goals as goal

pub invariant_of-self-clause-up_to : goal.invariant_of-self-clause-up_to
invariant_of-self-clause-up_to c =
    λ x. omega (arith, zeros_of (length c.args.self.now.columns) (c.fill.ensures.after (λ y e. e)) x)

pub returns : goal.returns
returns c = (
  nothing_in c.sum-self.result c.fill.new.self (zeros_of (length c.args.self.now.columns) (c.fill.ensures.after (λ y e. e))) ∙ c.sum-self.ensures,
  omega arith,
)
