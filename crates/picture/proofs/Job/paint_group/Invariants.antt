use mathlib.Core.Path.{◌≡◌}
use Prim.Native.Nat.{◌+◌, ◌*◌, ◌%◌, min}
use lib.ListN.{length}
use Rattle.picture.specs.Inner.{Painted}
use Rattle.picture.specs.Jobs.{row_of}
use Rattle.picture.proofs.Job.paint_group.Given as goal

-- the columns so far stand in every row, and the next tile starts at an even column
abbrev pub invariant-loop-left : goal.invariant-loop-left
invariant-loop-left l =
    Painted (λ y. row_of l.self (l.from + y)) l.count (l.width * 4) (min l.left l.width * 4) l.out
    × (length l.out ≡ length l.initial.out) × (l.left % 2 ≡ 0)
