-- The answer is `weave::weave`'s own, of numbers narrowed for it.
use mathlib.Core.Path.{◌≡◌, sym, ◌∙◌}
use lib.ListN.{length}
use Rattle.laws.specs.Rows.{over}
use Rattle.laws.proofs.Refusal.{written_alike}
use Rattle.refusal.specs.Refusal.{no_of}
use Rattle.weave.specs.Weave.{given_of, weave_no, woven_plane}
use Rattle.weavedesk.specs.Woven.{field_named}
use Rattle.weavedesk.proofs.Narrowed.{weave_number, weave_same}
use Rattle.weavedesk.proofs.desk_weave.Goals as goal

pub returns : goal.returns
returns c =
    let a = c.args in
    let top = c.field_cut.ensures in
    let bottom = c.field_cut-2.ensures in
    let r = no_of c.weave.result in
    let number =
    c.weave.ensures.value
    ∙ (λ i.
    weave_no (given_of (top i) a.top_luma.now a.top_cb.now a.top_cr.now)
    (given_of (bottom i) a.bottom_luma.now a.bottom_cb.now a.bottom_cr.now) (length a.out_luma.now) (length a.out_cb.now)
    (length a.out_cr.now))
    ∙ weave_number a.top a.bottom a.top_luma.now a.top_cb.now a.top_cr.now a.bottom_luma.now a.bottom_cb.now a.bottom_cr.now
    (length a.out_luma.now) (length a.out_cb.now) (length a.out_cr.now) in
    let same =
    weave_same a.top a.bottom a.top_luma.now a.top_cb.now a.top_cr.now a.bottom_luma.now a.bottom_cb.now a.bottom_cr.now
    (length a.out_luma.now) (length a.out_cb.now) (length a.out_cr.now) in
    let upper : r ≡ 0 → c.field_cut.result ≡ field_named a.top = λ z. top ∙ (same (sym number ∙ z)).0 in
    let lower : r ≡ 0 → c.field_cut-2.result ≡ field_named a.bottom = λ z. bottom ∙ (same (sym number ∙ z)).1 in
    rw c.told.ensures
    record {
      value = number;
      out_luma_after =
          c.weave.ensures.out_luma_after
          ∙ written_alike r a.out_luma.now
          (λ z. (λ i. over (woven_plane a.top_luma.now (upper z i).luma a.bottom_luma.now (lower z i).luma) a.out_luma.now));
      out_cb_after =
          c.weave.ensures.out_cb_after
          ∙ written_alike r a.out_cb.now
          (λ z. (λ i. over (woven_plane a.top_cb.now (upper z i).cb a.bottom_cb.now (lower z i).cb) a.out_cb.now));
      out_cr_after =
          c.weave.ensures.out_cr_after
          ∙ written_alike r a.out_cr.now
          (λ z. (λ i. over (woven_plane a.top_cr.now (upper z i).cr a.bottom_cr.now (lower z i).cr) a.out_cr.now));
    }
