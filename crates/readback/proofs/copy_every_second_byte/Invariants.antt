use Prim.Native.Nat.{◌+◌, ◌*◌}
use lib.ListN.{get_or}
use Rattle.laws.proofs.Lists.{Filled}
use Rattle.readback.proofs.copy_every_second_byte.Given as goal

abbrev pub invariant-loop-x : goal.invariant-loop-x
invariant-loop-x l = Filled (λ x. get_or l.row (x * 2 + l.lane) 0) l.initial.to l.to l.x
