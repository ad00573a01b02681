-- The loop keeps `Copied`: the bytes passed are those of src, the rest is as it was.
use Prim.Native.Nat.{min}
use Rattle.copy.proofs.Copied.{Copied}
use Rattle.copy.proofs.copy_front.Given as goal

abbrev pub invariant-loop-at : goal.invariant-loop-at
invariant-loop-at l = Copied l.initial.dst l.src l.n l.dst (min l.at l.n)
