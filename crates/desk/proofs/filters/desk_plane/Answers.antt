use mathlib.Core.Path.{◌≡◌, sym, ap, ◌∙◌}
use Prim.Native.Nat.{ℕ}
use mathlib.Core.Bool.{◌&&◌, true}
use lib.Dec.{leb}
use lib.ListN.{length}
use Rattle.laws.specs.Refusal.{written}
use Rattle.laws.specs.Rows.{over}
use Rattle.refusal.specs.Refusal.{no_of}
use Rattle.laws.proofs.Refusal.{number_behind, written_alike}
use Rattle.filter.specs.declared.Making.{Making}
use Rattle.filter.specs.Rows.{field_rows_of}
use Rattle.fill.specs.Fill.{plane_tests, plane_made}
use Rattle.desk.specs.Filters.{making_named, all_named}
use Rattle.desk.specs.Inner.{cut_planes}
use Rattle.desk.proofs.Cut.{plane_number, plane_same}
use Rattle.desk.proofs.filters.desk_plane.Goals as goal

pub returns : goal.returns
returns c =
    let a = c.args in
    let passes = all_named a.quality a.before_shape a.cur_shape a.after_shape && leb a.first 1 in
    let passed : passes ≡ true = (λ i. sym c.all_named.ensures i && leb a.first 1) ∙ c.if-not-named.false in
    let making = making_named a.quality (field_rows_of a.first) a.before_shape a.cur_shape a.after_shape in
    let held : c.making_named-making.result ≡ cut_planes making =
    c.making_named-making.ensures
    ∙ (λ i. cut_planes (making_named a.quality ((c.field-rows.ensures ∙ ap field_rows_of c.from.ensures) i) a.before_shape a.cur_shape a.after_shape)) in
    let number =
    c.plane.ensures.value
    ∙ (number_behind 3 passed (λ i. plane_tests (held i) (length a.before.now) (length a.cur.now) (length a.after.now) (length a.out.now))
    ∙ plane_number making passes (length a.before.now) (length a.cur.now) (length a.after.now) (length a.out.now)) in
    record {
      value = c.told.ensures ∙ number;
      out_after =
          c.plane.ensures.out_after
          ∙ written_alike (no_of c.plane.result) a.out.now
          (λ z.
          ap (λ (m : Making). over (plane_made m a.before.now a.cur.now a.after.now) a.out.now)
          (held
          ∙ plane_same making passes (length a.before.now) (length a.cur.now) (length a.after.now) (length a.out.now) (sym number ∙ z)))
          ∙ ap (λ (k : ℕ). written k (over (plane_made making a.before.now a.cur.now a.after.now) a.out.now) a.out.now) (sym c.told.ensures);
    }
