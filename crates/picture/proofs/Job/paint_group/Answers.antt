use mathlib.Core.Path.{◌≡◌, ◌∙◌}
use Prim.Native.Nat.{◌+◌, ◌*◌, min}
use native.Mathlib.Omega.{arith}
use Rattle.picture.proofs.Painted.{length_row}
use Rattle.picture.proofs.Tiles.{painted_to, painted_whole}
use Rattle.picture.proofs.Job.paint_group.Goals as goal

pub returns : goal.returns
returns c =
    let w = c.args.self.recipe.luma.cur.width in
    let all : min c.loop-left.left w * 4 ≡ w * 4 = omega arith in
    painted_whole (w * 4) (λ y. length_row _ _ _ _ _) (c.loop-left.invariant.1 ∙ c.requires.from_value.3) (painted_to all c.loop-left.invariant.0)

pub returns-2 : goal.returns-2
returns-2 c =
    let w = c.args.self.recipe.luma.cur.width in
    let all : c.loop-left.left * 4 + c.min-columns.result * 4 ≡ w * 4 = omega arith in
    painted_whole (w * 4) (λ y. length_row _ _ _ _ _) (c.paint_tile.auto.out ∙ c.loop-left.invariant.1 ∙ c.requires.from_value.3)
    (painted_to all c.paint_tile.ensures)
