use Prim.Native.Nat.{◌*◌}
use Rattle.laws.proofs.Lists.{Stacked}
use Rattle.weave.proofs.Fields.{woven_rows}
use Rattle.weave.proofs.weave_plane.Given as goal

abbrev pub invariant-loop-r : goal.invariant-loop-r
invariant-loop-r l = Stacked (woven_rows l.top l.fn.t l.bottom l.fn.b) l.n (l.fn.t.height * 2) l.initial.out l.out (l.r * 2)
