use mathlib.Core.Path.{sym}
use lib.ListN.{length}
use Rattle.weave.specs.Weave.{given_of}
use Rattle.weaver.proofs.Judged.{mate_passed, unmated_passed}
use Rattle.weaver.proofs.Weaver.push.Goals as goal

pub weave_kept-requires-clause-weavable_into : goal.weave_kept-requires-clause-weavable_into
weave_kept-requires-clause-weavable_into c =
    let a = c.args in
    let e = c.mate-mate.ensures in
    (mate_passed a.self (given_of a.shape a.luma.now a.cb.now a.cr.now) a.parity a.store.now _ _ _ e.0 e.1 c.in-Some.is c.is_some.ensures
    (sym c.in_default.ensures)).0

pub weave_kept-requires-clause-depth_in_bounds : goal.weave_kept-requires-clause-depth_in_bounds
weave_kept-requires-clause-depth_in_bounds c =
    let a = c.args in
    let e = c.mate-mate.ensures in
    (mate_passed a.self (given_of a.shape a.luma.now a.cb.now a.cr.now) a.parity a.store.now (length a.out_luma.now) (length a.out_cb.now)
    (length a.out_cr.now) e.0 e.1 c.in-Some.is c.is_some.ensures (sym c.in_default.ensures)).1

pub pack_field-requires : goal.pack_field-requires
pack_field-requires c =
    let a = c.args in
    unmated_passed a.self (given_of a.shape a.luma.now a.cb.now a.cr.now) _ (length a.out_luma.now) (length a.out_cb.now) (length a.out_cr.now)
    c.in-None.is c.is_some.ensures (sym c.in_default.ensures)
