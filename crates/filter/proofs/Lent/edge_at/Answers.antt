use mathlib.Core.Path.{◌≡◌, sym, subst}
use Prim.Native.Nat.{◌≤◌}
use lib.IntN.{ℤ, nat_abs}
use Rattle.plane.specs.Coordinates.{unbiased}
use Rattle.filter.specs.Held.{step, value_in}
use Rattle.filter.specs.Filter.{edge_of}
use Rattle.filter.proofs.Offsets.{step_within}
use Rattle.filter.proofs.Slants.{edge_found, edge_within}
use Rattle.filter.proofs.Lent.edge_at.Goals as goal

pub returns : goal.returns
returns c =
    let a = c.args in
    let found : step c.tried-far_right.result.slant ≡ edge_of (value_in a.self.now) (unbiased a.x) (unbiased a.y) =
    edge_found _ _ _ c.score.ensures c.tried-left.ensures c.tried-right.ensures
    c.tried-far_left.ensures c.tried-far_right.ensures
    in
    (found, step_within _ (subst (λ (j : ℤ). nat_abs j ≤ 2) (sym found) (edge_within _ _ _)))
