use mathlib.Core.Path.{◌≡◌}
use Prim.Native.Nat.{◌+◌, ◌-◌}
use lib.IntN.{pos}
use lib.ListN.{length}
use Rattle.laws.proofs.Lists.{Filled}
use Rattle.fill.specs.Lines.{sample_for}
use Rattle.fill.proofs.Request.line.Given as goal

abbrev pub invariant-loop-x : goal.invariant-loop-x
invariant-loop-x l =
    Filled (λ k. sample_for l.self (pos (l.left + k)) (pos l.y)) l.initial.out l.out l.x × (length l.rows ≡ 5240)

abbrev pub decreases-loop-x : goal.decreases-loop-x
decreases-loop-x l = length l.initial.out - l.x
