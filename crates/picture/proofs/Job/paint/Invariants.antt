use mathlib.Core.Path.{◌≡◌}
use Prim.Native.Nat.{◌*◌, ◌%◌, min}
use Rattle.laws.proofs.Lists.{Stacked}
use Rattle.picture.specs.Jobs.{row_of}
use Rattle.picture.proofs.Job.paint.Given as goal

-- the rows so far stand in the output, and the next group starts at an even row
abbrev pub invariant-loop-from : goal.invariant-loop-from
invariant-loop-from l =
    Stacked (row_of l.self) (l.self.recipe.luma.cur.width * 4) l.self.recipe.luma.cur.height l.initial.out l.out
    (min l.from l.self.recipe.luma.cur.height)
    × (l.from % 2 ≡ 0)
