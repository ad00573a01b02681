-- The answer is `readback::readback_copy`'s own, of numbers narrowed for it.
use mathlib.Core.Path.{◌≡◌, sym, ◌∙◌}
use lib.ListN.{length}
use Rattle.laws.specs.Rows.{over}
use Rattle.laws.proofs.Refusal.{written_alike}
use Rattle.refusal.specs.Refusal.{no_of}
use Rattle.readback.specs.Readback.{luma_shape, cb_shape, cr_shape, cr_bytes_of, readback_no, copied_of}
use Rattle.weavedesk.specs.Woven.{readback_named}
use Rattle.weavedesk.proofs.Narrowed.{seven, readback_number, readback_same}
use Rattle.weavedesk.proofs.desk_readback_copy.Goals as goal

pub returns : goal.returns
returns c =
    let a = c.args in
    let luma = length a.luma.now in
    let second = length a.second.now in
    let third = length a.third.now in
    let luma_room = length a.out_luma.now in
    let cb_room = length a.out_cb.now in
    let cr_room = length a.out_cr.now in
    let behind = seven luma_room cb_room cr_room in
    let about = c.readback_cut.ensures in
    let r = no_of c.readback_copy.result in
    let number =
    c.readback_copy.ensures.value
    ∙ (λ i. readback_no (about i) luma second third luma_room cb_room cr_room)
    ∙ readback_number a.about luma second third behind in
    let same : r ≡ 0 → c.readback_cut.result ≡ readback_named a.about =
    λ z. about ∙ readback_same a.about luma second third behind (sym number ∙ z) in
    rw c.told.ensures
    record {
      value = number;
      out_luma_after =
          c.readback_copy.ensures.out_luma_after
          ∙ written_alike r a.out_luma.now (λ z. (λ i. over (copied_of a.luma.now (luma_shape (same z i))) a.out_luma.now));
      out_cb_after =
          c.readback_copy.ensures.out_cb_after
          ∙ written_alike r a.out_cb.now (λ z. (λ i. over (copied_of a.second.now (cb_shape (same z i))) a.out_cb.now));
      out_cr_after =
          c.readback_copy.ensures.out_cr_after
          ∙ written_alike r a.out_cr.now
          (λ z. (λ i. over (copied_of (cr_bytes_of (same z i) a.second.now a.third.now) (cr_shape (same z i))) a.out_cr.now));
    }
