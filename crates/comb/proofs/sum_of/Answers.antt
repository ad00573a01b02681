-- The loop keeps `Summed` of the columns passed, once for each half.
use Prim.Native.Nat.{ℕ, ◌+◌}
use mathlib.Core.Path.{sym, ap₂, ◌∙◌}
use native.Mathlib.Omega.{arith}
use lib.ListN.{get_or}
use Rattle.laws.proofs.Sums.{starts, adds, ends, sum_parts}
use Rattle.comb.proofs.sum_of.Goals as goal

pub loop-x-init : goal.loop-x-init
loop-x-init c = (starts _ _ _, starts _ _ _)

pub loop-x-preserved : goal.loop-x-preserved
loop-x-preserved c = (
  adds c.loop-x.invariant.0 c.loop-x-test.true (omega arith) c.from-left.ensures,
  adds c.loop-x.invariant.1 c.loop-x-test.true (omega arith) c.from-right.ensures,
)

pub returns : goal.returns
returns c =
    let inv = c.loop-x.invariant in
    let columns = c.args.columns.now in
    ap₂ (λ (a b : ℕ). a + b) (ends inv.0 c.loop-x-test.false) (ends inv.1 c.loop-x-test.false) ∙ sym (sum_parts 128 128 (λ k. get_or columns k 0))
