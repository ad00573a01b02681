-- Codes, shapes and the state's length are tested here, and the rest is the weaver's own answer.
use mathlib.Core.Path.{refl, sym, ap, ◌∙◌}
use mathlib.Core.Bool.{◌&&◌}
use native.Mathlib.Omega.{arith}
use lib.Dec.{leb}
use lib.ListN.{length}
use mir.Syntax.{w64}
use mir.Val.{SFits}
use mir.ValLaws.{to_z-of_z}
use borrow.Author.Tests.{leb-true}
use borrow.Author.Rules.{rules}
use Rattle.refusal.specs.Refusal.{no_of}
use Rattle.refusal.proofs.Claims.{numbers_tell}
use Rattle.field.specs.Field.{parity_named}
use Rattle.weave.specs.Weave.{good_field, chroma_fits}
use Rattle.weavedesk.specs.Woven.{field_named}
use Rattle.weavedesk.specs.Push.{Lent, Offer, time_named, parity_in, time_in, weaver_of}
use Rattle.weavedesk.proofs.Push.{first_each, first_is, field_same, Places, Said, refused_first_lem, renamed, number, taken}
use Rattle.weavedesk.proofs.desk_weaver_push.Goals as goal

pub returns-in-Err-clause-value : goal.returns-in-Err-clause-value
returns-in-Err-clause-value c =
    let a = c.args in
    let o : Offer =
    record {
      parity = a.parity;
      timed = a.timed;
      time = a.time;
      shape = a.shape;
      luma = a.luma.now;
      cb = a.cb.now;
      cr = a.cr.now;
      luma_room = length a.out_luma.now;
      cb_room = length a.out_cb.now;
      cr_room = length a.out_cr.now;
    } in
    let l : Lent = record { state = a.state.now; store = a.store.now } in
    let p : Places =
    record {
      out_luma = a.out_luma.now;
      out_cb = a.out_cb.now;
      out_cr = a.out_cr.now;
      picture = a.picture.now;
      earlier_timed = a.earlier_timed.now;
      earlier_time = a.earlier_time.now;
    } in
    let named = leb a.parity 1 && leb a.timed 1 in
    let first = first_is a.shape named (length a.state.now) c.field_cut-given.ensures in
    c.number.ensures ∙ (refused_first_lem o l p (c.in-Err.ensures ∙ first) (λ z. omega (arith, z, numbers_tell.0 c.in-Err.refusal))).0

pub returns-in-Err-answer-clause-value : goal.returns-in-Err-answer-clause-value
returns-in-Err-answer-clause-value c =
    let a = c.args in
    let o : Offer =
    record {
      parity = a.parity;
      timed = a.timed;
      time = a.time;
      shape = a.shape;
      luma = a.luma.now;
      cb = a.cb.now;
      cr = a.cr.now;
      luma_room = length a.out_luma.now;
      cb_room = length a.out_cb.now;
      cr_room = length a.out_cr.now;
    } in
    let l : Lent = record { state = a.state.now; store = a.store.now } in
    let p : Places =
    record {
      out_luma = a.out_luma.now;
      out_cb = a.out_cb.now;
      out_cr = a.out_cr.now;
      picture = a.picture.now;
      earlier_timed = a.earlier_timed.now;
      earlier_time = a.earlier_time.now;
    } in
    let named = leb a.parity 1 && leb a.timed 1 in
    let first = first_is a.shape named (length a.state.now) c.field_cut-given.ensures in
    let passed = sym (c.in_default.ensures ∙ first) in
    let e = c.push-pushed.ensures in
    let said :
    Said o l p (weaver_of l) (field_named a.shape) (parity_in o) (time_in o) c.push-pushed.result.answer c.push-pushed.result.weaver
    c.push-pushed.new.store c.push-pushed.new.out_luma c.push-pushed.new.out_cb c.push-pushed.new.out_cr =
    renamed o l p c.push-pushed.result.answer c.push-pushed.result.weaver _ _ _ _ c.weaver_in-weaver.ensures
    (c.field_cut-given.ensures ∙ field_same a.shape named (leb 56 (length a.state.now)) passed) (c.named.ensures ∙ ap parity_named c.from.ensures)
    (c.time_named.ensures ∙ ap (time_named a.timed) (to_z-of_z w64 a.time c.ranges.time)) (
      e.answer_value,
      (
        e.answer_value_2,
        (e.weaver_value, (e.store_after, (e.out_luma_after, (e.out_cb_after, e.out_cr_after)))),
      ),
    ) in
    c.number-in-Err-answer.ensures
    ∙ number o l p passed c.push-pushed.result.answer c.push-pushed.result.weaver _ _ _ _ said (sym (ap no_of c.in-Err-answer.is))

pub keep-requires : goal.keep-requires
keep-requires c =
    let a = c.args in
    let named = leb a.parity 1 && leb a.timed 1 in
    let first = first_is a.shape named (length a.state.now) c.field_cut-given.ensures in
    leb-true 56 (length a.state.now)
    (first_each named (good_field (field_named a.shape)) (chroma_fits (field_named a.shape)) _ (sym (c.in_default.ensures ∙ first))).1.1.1.0

pub returns : goal.returns
returns c =
    let a = c.args in
    let o : Offer =
    record {
      parity = a.parity;
      timed = a.timed;
      time = a.time;
      shape = a.shape;
      luma = a.luma.now;
      cb = a.cb.now;
      cr = a.cr.now;
      luma_room = length a.out_luma.now;
      cb_room = length a.out_cb.now;
      cr_room = length a.out_cr.now;
    } in
    let l : Lent = record { state = a.state.now; store = a.store.now } in
    let p : Places =
    record {
      out_luma = a.out_luma.now;
      out_cb = a.out_cb.now;
      out_cr = a.out_cr.now;
      picture = a.picture.now;
      earlier_timed = a.earlier_timed.now;
      earlier_time = a.earlier_time.now;
    } in
    let named = leb a.parity 1 && leb a.timed 1 in
    let first = first_is a.shape named (length a.state.now) c.field_cut-given.ensures in
    let passed = sym (c.in_default.ensures ∙ first) in
    let e = c.push-pushed.ensures in
    let said :
    Said o l p (weaver_of l) (field_named a.shape) (parity_in o) (time_in o) c.push-pushed.result.answer c.push-pushed.result.weaver
    c.push-pushed.new.store c.push-pushed.new.out_luma c.push-pushed.new.out_cb c.push-pushed.new.out_cr =
    renamed o l p c.push-pushed.result.answer c.push-pushed.result.weaver _ _ _ _ c.weaver_in-weaver.ensures
    (c.field_cut-given.ensures ∙ field_same a.shape named (leb 56 (length a.state.now)) passed) (c.named.ensures ∙ ap parity_named c.from.ensures)
    (c.time_named.ensures ∙ ap (time_named a.timed) (to_z-of_z w64 a.time c.ranges.time)) (
      e.answer_value,
      (
        e.answer_value_2,
        (e.weaver_value, (e.store_after, (e.out_luma_after, (e.out_cb_after, e.out_cr_after)))),
      ),
    ) in
    let fits : SFits w64 c.time_number.result = search rules in
    let ends =
    taken o l p passed c.push-pushed.result.answer c.push-pushed.result.weaver _ _ _ _ said (sym (ap no_of c.in-Ok.is)) refl c.in-Ok.pair c.in-Ok.is _ _ _ _
    c.earlier_in-earlier.result c.keep.ensures c.earlier_in-earlier.ensures c.picture_in.ensures c.timed_number.ensures
    (to_z-of_z w64 c.time_number.result fits ∙ c.time_number.ensures) in
    record {
      value = ends.0;
      state_after = ends.1.0;
      store_after = ends.1.1.0;
      out_luma_after = ends.1.1.1.0;
      out_cb_after = ends.1.1.1.1.0;
      out_cr_after = ends.1.1.1.1.1.0;
      picture_after = ends.1.1.1.1.1.1.0;
      earlier_timed_after = ends.1.1.1.1.1.1.1.0;
      earlier_time_after = ends.1.1.1.1.1.1.1.1;
    }
