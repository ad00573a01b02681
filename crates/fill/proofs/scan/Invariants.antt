use Prim.Native.Nat.{◌+◌, ◌*◌}
use Rattle.laws.proofs.Lists.{Filled}
use Rattle.fill.specs.Lines.{stored_value}
use Rattle.fill.proofs.scan.Given as goal

abbrev pub invariant-loop-x : goal.invariant-loop-x
invariant-loop-x l = Filled (λ k. stored_value l.src l.depth l.shift l.full (l.at + l.step * (l.from + k))) l.initial.dst l.dst l.x
