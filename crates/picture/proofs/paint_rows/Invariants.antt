use Rattle.picture.specs.Inner.{painted_at, Tiled}
use Rattle.picture.proofs.paint_rows.Given as goal

abbrev pub invariant-loop-y : goal.invariant-loop-y
invariant-loop-y l = Tiled (painted_at l.conversion l.width l.samples.luma.now l.samples.cb.now l.samples.cr.now) l.y-end l.stride l.left l.span l.initial.out l.out l.y
