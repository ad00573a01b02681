use mathlib.Core.Path.{◌≡◌, ap, ◌∙◌}
use lib.ListN.{length}
use Rattle.std.proofs.Common.{rules}
use Rattle.refusal.specs.Refusal.{no_of, values_of}
use Rattle.field.specs.Field.{parity_named}
use Rattle.filmdesk.specs.Kept.{detector_in}
use Rattle.filmdesk.proofs.Calls.{read_number, read_values}
use Rattle.filmdesk.proofs.push_picture.Goals as goal

pub returns-in_err-seen-clause-result_value : goal.returns-in_err-seen-clause-result_value
returns-in_err-seen-clause-result_value c =
    let a = c.args in
    let told : no_of c.from_residual-in_err-seen.result ≡ no_of c.push-pushed.result.answer = search rules in
    told ∙ c.push-pushed.ensures.answer_value
    ∙ read_number a.grid a.parity (length a.plane.now) (length a.store.now) (length a.state.now) (detector_in a.state.now) _ c.grid_named-picture.ensures
    c.in_ok-judge.ensures _ c.detector_in-detector.ensures

pub returns-in_err-seen-clause-result_value_2 : goal.returns-in_err-seen-clause-result_value_2
returns-in_err-seen-clause-result_value_2 c =
    let a = c.args in
    let told : values_of c.from_residual-in_err-seen.result ≡ values_of c.push-pushed.result.answer = search rules in
    told ∙ c.push-pushed.ensures.answer_value_2
    ∙ read_values a.grid a.parity (length a.plane.now) (length a.store.now) (length a.state.now) (detector_in a.state.now) _ c.grid_named-picture.ensures
    c.in_ok-judge.ensures _ c.detector_in-detector.ensures a.plane.now a.store.now _ _ (c.named.ensures ∙ ap parity_named c.from.ensures)
