-- The codes are tested here, and the rest is `filter::sample`'s own answer.
use Prim.Native.Nat.{ℕ}
use mathlib.Core.Path.{sym, ap, ◌∙◌}
use mir.Facts.{to_z-of_z}
use Rattle.std.proofs.Common.{Ok, Err}
use Rattle.laws.specs.Refusal.{written}
use Rattle.filter.specs.Making.{sample_in}
use Rattle.desk.specs.Filters.{rows_named, making_named, all_named}
use Rattle.desk.proofs.Cut.{samples_on}
use Rattle.desk.proofs.filters.desk_sample.Goals as goal

pub returns-in-Ok : goal.returns-in-Ok
returns-in-Ok c =
    let a = c.args in
    let e = c.in-Ok.ensures in
    let making = making_named a.quality (rows_named a.first a.mate) a.before_shape a.cur_shape a.after_shape in
    let h =
    samples_on making (all_named a.quality a.before_shape a.cur_shape a.after_shape) a.before.now a.cur.now a.after.now a.x a.y (Ok c.in-Ok.found) a.value.now
    (sym c.if-not-all_named.ensures) c.making_named-making.ensures (to_z-of_z c.ranges.x) (to_z-of_z c.ranges.y) e.result_value e.result_value_2 in
    record {
      value = h.number;
      value_after = h.place ∙ ap (λ (k : ℕ). written k (sample_in making a.before.now a.cur.now a.after.now a.x a.y) a.value.now) (sym h.number);
    }

pub returns-in-Err : goal.returns-in-Err
returns-in-Err c =
    let a = c.args in
    let e = c.in-Err.ensures in
    let making = making_named a.quality (rows_named a.first a.mate) a.before_shape a.cur_shape a.after_shape in
    let h =
    samples_on making (all_named a.quality a.before_shape a.cur_shape a.after_shape) a.before.now a.cur.now a.after.now a.x a.y (Err c.in-Err.refusal) a.value.now
    (sym c.if-not-all_named.ensures) c.making_named-making.ensures (to_z-of_z c.ranges.x) (to_z-of_z c.ranges.y) e.result_value e.result_value_2 in
    let number = c.number-in-Err.ensures ∙ h.number in
    record {
      value = number;
      value_after = h.place ∙ ap (λ (k : ℕ). written k (sample_in making a.before.now a.cur.now a.after.now a.x a.y) a.value.now) (sym number);
    }
