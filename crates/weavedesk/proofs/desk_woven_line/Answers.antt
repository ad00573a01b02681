use mathlib.Core.Path.{refl, ◌∙◌}
use native.Mathlib.Omega.{arith}
use Rattle.refusal.proofs.Claims.{numbers_tell}
use Rattle.weavedesk.proofs.Lines.{line_refused, line-too-long, line-copied}
use Rattle.weavedesk.proofs.desk_woven_line.Goals as goal

pub returns-in-Err-clause-value : goal.returns-in-Err-clause-value
returns-in-Err-clause-value c =
    let a = c.args in
    c.number.ensures
    ∙ (line_refused a.top.now a.top_lines a.bottom.now a.bottom_lines a.y a.out.now c.in-Err.ensures (λ z. omega (arith, z, numbers_tell.0 c.in-Err.refusal))).0

pub returns-then-out-line-clause-value : goal.returns-then-out-line-clause-value
returns-then-out-line-clause-value c =
    let a = c.args in
    c.number-then-out-line.ensures
    ∙ (line-too-long a.top.now a.top_lines a.bottom.now a.bottom_lines a.y a.out.now c.in_default.ensures refl c.grid_named.ensures
    c.grid_named-2.ensures c.woven_line-line.ensures.result_value c.if-out-line.true).0

pub returns : goal.returns
returns c =
    let a = c.args in
    let both =
    line-copied a.top.now a.top_lines a.bottom.now a.bottom_lines a.y a.out.now c.in_default.ensures refl c.grid_named.ensures
    c.grid_named-2.ensures c.woven_line-line.ensures.result_value c.if-out-line.false c.copy_front.ensures in
    record { value = both.0; out_after = both.1 }
