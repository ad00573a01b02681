-- The layout's code is tested here, and the rest is `plane::at`'s own answer.
use lib.ListN.{length}
use mathlib.Core.Path.{sym, ◌∙◌}
use mir.Facts.{to_z-of_z}
use Rattle.std.proofs.Common.{Ok, Err}
use Rattle.plane.specs.Plane.{value_of}
use Rattle.desk.proofs.Cut.{reads_on}
use Rattle.desk.proofs.planes.desk_at.Goals as goal

pub returns-in-Ok : goal.returns-in-Ok
returns-in-Ok c =
    let a = c.args in
    let h =
    reads_on (value_of a.plane.now) a.shape (length a.plane.now) a.x a.y (Ok c.in-Ok.found) a.value.now
    (sym c.if-not-is_named.ensures) c.shape_named.ensures (to_z-of_z c.ranges.x) (to_z-of_z c.ranges.y) c.in-Ok.ensures.0 c.in-Ok.ensures.1 in
    record { value = h.number; value_after = h.place }

pub returns-in-Err : goal.returns-in-Err
returns-in-Err c =
    let a = c.args in
    let h =
    reads_on (value_of a.plane.now) a.shape (length a.plane.now) a.x a.y (Err c.in-Err.refusal) a.value.now
    (sym c.if-not-is_named.ensures) c.shape_named.ensures (to_z-of_z c.ranges.x) (to_z-of_z c.ranges.y) c.in-Err.ensures.0 c.in-Err.ensures.1 in
    record { value = c.number-in-Err.ensures ∙ h.number; value_after = h.place }
