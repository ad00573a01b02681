use native.Mathlib.Omega.{arith}
use lib.ListN.{replicate}
use Rattle.comb.proofs.Columns.{fresh_at, nothing_in}
use Rattle.comb.proofs.Tally.new.Goals as goal

pub invariant_of-result-clause-up_to : goal.invariant_of-result-clause-up_to
invariant_of-result-clause-up_to c = λ x. omega (arith, fresh_at 256 x)

pub returns : goal.returns
returns c = nothing_in 0 (replicate 256 0) (fresh_at 256)
