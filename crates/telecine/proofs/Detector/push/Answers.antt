use mathlib.Core.Path.{sym}
use Rattle.plane.specs.Plane.{grid_shape}
use Rattle.telecine.proofs.Calls.{count_done, picture_left}
use Rattle.telecine.proofs.Detector.push.Goals as goal

pub seen_picture-seen-requires : goal.seen_picture-seen-requires
seen_picture-seen-requires c =
    let a = c.args in
    count_done a.self a.store.now a.plane.now (grid_shape a.grid) a.first (sym c.in_default.ensures)

pub returns : goal.returns
returns c =
    let a = c.args in
    let e = c.step-last.ensures in
    let p = picture_left a.self a.store.now a.plane.now (grid_shape a.grid) a.first (sym c.in_default.ensures)
    c.seen_picture-seen.ensures e.course_after e.last_value e.answer_value e.answer_value_2 c.keep.ensures.value c.keep.ensures.store_after in
    record { detector_value = p.0; answer_value = p.1; answer_value_2 = p.2; store_after = p.3 }
