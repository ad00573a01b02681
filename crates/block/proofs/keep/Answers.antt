use lib.ListN.{length}
use Rattle.plane.specs.Plane.{grid_shape}
use Rattle.block.proofs.Passed.{keep_passed}
use Rattle.block.proofs.keep.Goals as goal

pub keep_rows-requires : goal.keep_rows-requires
keep_rows-requires c =
    let a = c.args in
    keep_passed (grid_shape a.grid) (length a.plane.now) (length a.store.now) c.keepable.ensures c.in_ok-keepable.was
