-- The loop keeps `Summed` of the rows passed.
use Prim.Native.Nat.{◌-◌}
use Rattle.laws.specs.Sums.{sum_over}
use Rattle.laws.proofs.Sums.{Summed}
use Rattle.comb.specs.Comb.{bend_of}
use Rattle.comb.specs.Rows.{codes_of}
use Rattle.comb.specs.Tally.{in_all}
use Rattle.comb.proofs.rows_bend.Given as goal

abbrev pub invariant-loop-y : goal.invariant-loop-y
invariant-loop-y l =
    Summed 4294967296 (λ y. sum_over l.width (λ x. bend_of (codes_of l.kind l.plane l.stride) x y)) (l.height - 2) (in_all l.tally) l.y
