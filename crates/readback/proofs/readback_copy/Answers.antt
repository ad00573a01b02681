use native.Mathlib.Omega.{arith}
use lib.ListN.{length}
use Rattle.readback.proofs.Passed.{judged, passed}
use Rattle.readback.proofs.readback_copy.Goals as goal

pub returns-in_err-copyable-clause-value : goal.returns-in_err-copyable-clause-value
returns-in_err-copyable-clause-value c =
    let a = c.args in
    grind (arith, judged a.about (length a.luma.now) (length a.second.now) (length a.third.now) (length a.out_luma.now) (length a.out_cb.now) (length a.out_cr.now) _ c.readback_sizes-needed.ensures.result_value c.readback_sizes-needed.ensures.result_value_2 c.in_err-copyable.ensures)

pub copy_rows-requires : goal.copy_rows-requires
copy_rows-requires c =
    let a = c.args in
    rw c.luma.ensures (passed a.about (length a.luma.now) (length a.second.now) (length a.third.now) (length a.out_luma.now) (length a.out_cb.now) (length a.out_cr.now) _ c.readback_sizes-needed.ensures.result_value c.readback_sizes-needed.ensures.result_value_2 c.in_ok-copyable.ensures).luma_ready

pub copy_rows-requires-2 : goal.copy_rows-requires-2
copy_rows-requires-2 c =
    let a = c.args in
    rw c.cb.ensures (passed a.about (length a.luma.now) (length a.second.now) (length a.third.now) (length a.out_luma.now) (length a.out_cb.now) (length a.out_cr.now) _ c.readback_sizes-needed.ensures.result_value c.readback_sizes-needed.ensures.result_value_2 c.in_ok-copyable.ensures).cb_ready

pub copy_cr-requires : goal.copy_cr-requires
copy_cr-requires c =
    let a = c.args in
    (passed a.about (length a.luma.now) (length a.second.now) (length a.third.now) (length a.out_luma.now) (length a.out_cb.now) (length a.out_cr.now) _ c.readback_sizes-needed.ensures.result_value c.readback_sizes-needed.ensures.result_value_2 c.in_ok-copyable.ensures).cr_ready

pub returns-clause-value : goal.returns-clause-value
returns-clause-value c =
    let a = c.args in
    judged a.about (length a.luma.now) (length a.second.now) (length a.third.now) (length a.out_luma.now) (length a.out_cb.now) (length a.out_cr.now) _ c.readback_sizes-needed.ensures.result_value c.readback_sizes-needed.ensures.result_value_2 c.in_ok-copyable.ensures
