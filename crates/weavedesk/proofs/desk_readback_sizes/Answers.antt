-- The answer is `readback::readback_sizes`'s own, of numbers narrowed for it.
use mathlib.Core.Path.{refl, ap, ◌∙◌}
use mathlib.Core.List.{[], ◌∷◌}
use lib.ListN.{length}
use Rattle.laws.specs.Refusal.{when_done}
use Rattle.laws.proofs.Refusal.{Tells, told_number, told_value, told_nothing, written_alike}
use Rattle.refusal.specs.Refusal.{no_of, values_of}
use Rattle.readback.specs.declared.Readback.{Readback}
use Rattle.readback.specs.declared.Sizes.{Sizes}
use Rattle.readback.specs.Readback.{sizes_of, sizes_no}
use Rattle.weavedesk.specs.Woven.{readback_named}
use Rattle.weavedesk.specs.Inner.{readback_cut}
use Rattle.weavedesk.proofs.Narrowed.{nothing, readback_number, readback_same}
use Rattle.weavedesk.proofs.desk_readback_sizes.Goals as goal

pub returns-in-Ok : goal.returns-in-Ok
returns-in-Ok c =
    let answered : (let a = c.args in Tells no_of values_of c.readback_sizes.result (sizes_no (readback_named a.about) (length a.luma.now) (length a.second.now) (length a.third.now)) (sizes_of (readback_named a.about))) = let a = c.args in
    let luma = length a.luma.now in
    let second = length a.second.now in
    let third = length a.third.now in
    let about = c.readback_cut.ensures in
    let number = readback_number a.about luma second third nothing in
    let same = readback_same a.about luma second third nothing in
    record {
      number_is = c.readback_sizes.ensures.result_value ∙ (λ i. sizes_no (about i) luma second third) ∙ number;
      values_are =
          c.readback_sizes.ensures.result_value_2
          ∙ (λ i. when_done (sizes_no (about i) luma second third) (sizes_of (about i)))
          ∙ (λ i. when_done (number i) (sizes_of (readback_cut a.about)))
          ∙ written_alike (sizes_no (readback_named a.about) luma second third) [] (λ done. ap (λ (r : Readback). sizes_of r ∷ []) (same done));
    } in
    let h = answered in
    let same = told_value h c.in-Ok.is refl refl in
    record {
      value = told_number h c.in-Ok.is;
      luma_bytes_after = ap (λ (sizes : Sizes). sizes.luma) same;
      cb_bytes_after = ap (λ (sizes : Sizes). sizes.cb) same;
      cr_bytes_after = ap (λ (sizes : Sizes). sizes.cr) same;
    }

pub returns-in-Err : goal.returns-in-Err
returns-in-Err c =
    let answered : (let a = c.args in Tells no_of values_of c.readback_sizes.result (sizes_no (readback_named a.about) (length a.luma.now) (length a.second.now) (length a.third.now)) (sizes_of (readback_named a.about))) = let a = c.args in
    let luma = length a.luma.now in
    let second = length a.second.now in
    let third = length a.third.now in
    let about = c.readback_cut.ensures in
    let number = readback_number a.about luma second third nothing in
    let same = readback_same a.about luma second third nothing in
    record {
      number_is = c.readback_sizes.ensures.result_value ∙ (λ i. sizes_no (about i) luma second third) ∙ number;
      values_are =
          c.readback_sizes.ensures.result_value_2
          ∙ (λ i. when_done (sizes_no (about i) luma second third) (sizes_of (about i)))
          ∙ (λ i. when_done (number i) (sizes_of (readback_cut a.about)))
          ∙ written_alike (sizes_no (readback_named a.about) luma second third) [] (λ done. ap (λ (r : Readback). sizes_of r ∷ []) (same done));
    } in
    let h = answered in
    let kept = told_nothing h c.in-Err.is refl in
    rw c.number.ensures
    record { value = told_number h c.in-Err.is; luma_bytes_after = kept _ _; cb_bytes_after = kept _ _; cr_bytes_after = kept _ _ }
