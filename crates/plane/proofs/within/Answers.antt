use Rattle.plane.specs.Plane.{good_shape}
use Rattle.plane.proofs.within.Goals as goal

pub returns : goal.returns
unfolding good_shape
returns c = simp c.row_bytes-row.ensures.0
