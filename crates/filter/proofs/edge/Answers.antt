use mathlib.Core.Path.{refl, ap, ◌∙◌}
use native.Mathlib.Omega.{arith}
use lib.ListN.{length}
use mir.Facts.{to_z-of_z}
use Rattle.laws.proofs.Refusal.{gives}
use Rattle.plane.specs.Plane.{value_of}
use Rattle.plane.specs.Coordinates.{in_reach}
use Rattle.filter.specs.Filter.{edge_of}
use Rattle.filter.specs.Answer.{edge_no}
use Rattle.filter.proofs.Places.{edge_placed, slant_is}
use Rattle.filter.proofs.edge.Goals as goal

pub returns-in_err-readable : goal.returns-in_err-readable
returns-in_err-readable c = grind (arith, ap in_reach (to_z-of_z c.ranges.x), ap in_reach (to_z-of_z c.ranges.y))

pub edge_at-slant-requires : goal.edge_at-slant-requires
edge_at-slant-requires c =
    let places = edge_placed (to_z-of_z c.ranges.x) (to_z-of_z c.ranges.y) c.biased.ensures c.biased-2.ensures _ _ c.in_ok-readable.ensures in
    (places.0.room, places.1.room)

pub returns : goal.returns
returns c =
    let a = c.args in
    let places = edge_placed (to_z-of_z c.ranges.x) (to_z-of_z c.ranges.y) c.biased.ensures c.biased-2.ensures _ _ c.in_ok-readable.ensures in
    gives (c.in_ok-readable.ensures ∙ (λ i. edge_no a.shape (length a.cur.now) (to_z-of_z c.ranges.x i) (to_z-of_z c.ranges.y i))) refl
    (slant_is c.edge_at-slant.result c.edge_at-slant.ensures.1 ∙ c.edge_at-slant.ensures.0
    ∙ (λ i. edge_of (value_of a.cur.now a.shape) (places.0.is i) (places.1.is i)))
