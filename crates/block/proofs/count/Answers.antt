use lib.ListN.{length}
use Rattle.plane.specs.Plane.{grid_shape}
use Rattle.block.proofs.Passed.{count_passed, first_row_most}
use Rattle.block.proofs.count.Goals as goal

pub invariant_of-both : goal.invariant_of-both
invariant_of-both c =
    let a = c.args in
    record { ready = count_passed (grid_shape a.grid) (length a.plane.now) (length a.store.now) c.countable.ensures c.in_ok-countable.was }

pub counts_of-requires : goal.counts_of-requires
counts_of-requires c = rw c.first_row.ensures (first_row_most c.args.parity)
