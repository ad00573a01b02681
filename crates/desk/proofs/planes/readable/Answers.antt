-- The coordinates are judged by the sizes as given, and what is judged by the cut shape is the same of the shape as given.
use mathlib.Core.Path.{◌≡◌, ap, ◌∙◌}
use mathlib.Core.Bool.{◌&&◌}
use mathlib.Core.List.{[], ◌∷◌}
use lib.Dec.{leb}
use mir.Facts.{to_z-of_z}
use Rattle.std.proofs.Common.{rules}
use Rattle.laws.specs.Refusal.{lowest}
use Rattle.refusal.specs.Refusal.{no_of}
use Rattle.plane.specs.declared.Shape.{Shape}
use Rattle.plane.specs.Plane.{good_shape, plane_bytes}
use Rattle.plane.specs.Coordinates.{inside}
use Rattle.desk.proofs.Cut.{codes_on}
use Rattle.desk.proofs.planes.readable.Goals as goal

pub returns-in_err-unless-2 : goal.returns-in_err-unless-2
unfolding lowest
returns-in_err-unless-2 c =
    let a = c.args in
    let held = c.shape_named-held.ensures in
    let judged : no_of c.from_residual-in_err-unless-2.result ≡ lowest ((3, leb a.shape.layout 3 && (c.is_inside.result && c.is_inside-2.result)) ∷ (4, c.is_good.result) ∷ (6, leb (plane_bytes c.shape_named-held.result) a.bytes) ∷ []) = search rules in
    judged
    ∙ codes_on a.shape a.bytes a.x a.y
    (c.is_inside.ensures ∙ (λ i. inside (c.from.ensures i) (to_z-of_z c.ranges.x i)))
    (c.is_inside-2.ensures ∙ (λ i. inside (c.from-2.ensures i) (to_z-of_z c.ranges.y i)))
    (c.is_good.ensures ∙ ap good_shape held)
    (ap (λ (s : Shape). leb (plane_bytes s) a.bytes) held)

pub returns : goal.returns
unfolding lowest
returns c =
    let a = c.args in
    let held = c.shape_named-held.ensures in
    let judged : no_of c.unless-3.result ≡ lowest ((3, leb a.shape.layout 3 && (c.is_inside.result && c.is_inside-2.result)) ∷ (4, c.is_good.result) ∷ (6, leb c.bytes.result a.bytes) ∷ []) = search rules in
    judged
    ∙ codes_on a.shape a.bytes a.x a.y
    (c.is_inside.ensures ∙ (λ i. inside (c.from.ensures i) (to_z-of_z c.ranges.x i)))
    (c.is_inside-2.ensures ∙ (λ i. inside (c.from-2.ensures i) (to_z-of_z c.ranges.y i)))
    (c.is_good.ensures ∙ ap good_shape held)
    ((λ i. leb (c.bytes.ensures i) a.bytes) ∙ ap (λ (s : Shape). leb (plane_bytes s) a.bytes) held)
