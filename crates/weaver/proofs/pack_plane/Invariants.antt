-- The loop keeps `Stacked` of the rows passed.
use Rattle.laws.proofs.Lists.{Stacked}
use Rattle.weaver.proofs.Packed.{packed_rows}
use Rattle.weaver.proofs.pack_plane.Given as goal

abbrev pub invariant-loop-y : goal.invariant-loop-y
invariant-loop-y l = Stacked (packed_rows l.plane l.fn.l) l.n l.fn.l.height l.initial.part l.part l.y
