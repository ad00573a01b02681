-- Numbers are cut to their places, and the rest is `comb::comb`'s own answer.
use mathlib.Core.Path.{◌∙◌}
use Rattle.std.proofs.Common.{Ok, Err}
use Rattle.desk.proofs.Cut.{combs_on}
use Rattle.desk.proofs.combs.desk_comb.Goals as goal

pub returns-in-Ok : goal.returns-in-Ok
returns-in-Ok c =
    let a = c.args in
    let e = c.in-Ok.ensures in
    let h =
    combs_on a.plane.now a.width a.height a.depth a.stride (Ok c.in-Ok.found) a.total.now
    c.at_most_65535-columns.ensures c.at_most_65535-rows.ensures c.at_most_255-bits.ensures e.result_value e.result_value_2 in
    record { value = h.number; total_after = h.place }

pub returns-in-Err : goal.returns-in-Err
returns-in-Err c =
    let a = c.args in
    let e = c.in-Err.ensures in
    let h =
    combs_on a.plane.now a.width a.height a.depth a.stride (Err c.in-Err.refusal) a.total.now
    c.at_most_65535-columns.ensures c.at_most_65535-rows.ensures c.at_most_255-bits.ensures e.result_value e.result_value_2 in
    record { value = c.number.ensures ∙ h.number; total_after = h.place }
