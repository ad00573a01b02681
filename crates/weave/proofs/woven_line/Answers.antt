use Prim.Native.Nat.{◌/◌}
use mathlib.Core.Path.{sym, ◌∙◌}
use mathlib.Core.List.{[]}
use native.Mathlib.Omega.{arith}
use Rattle.laws.proofs.Refusal.{written_done}
use Rattle.weave.proofs.Fields.{same_size, top_ends, bottom_ends, top_line, bottom_line}
use Rattle.weave.proofs.Judged.{line_judged}
use Rattle.weave.proofs.woven_line.Goals as goal

pub line_of-requires : goal.line_of-requires
line_of-requires c =
    let a = c.args in
    let p = line_judged a.top.now a.top_lines a.bottom.now a.bottom_lines a.y (sym c.in-Ok.ensures) in
    top_ends a.top.now a.top_lines a.bottom.now a.bottom_lines p.0 (a.y / 2) (omega arith)

pub line_of-requires-else-y-eq0 : goal.line_of-requires-else-y-eq0
line_of-requires-else-y-eq0 c =
    let a = c.args in
    let p = line_judged a.top.now a.top_lines a.bottom.now a.bottom_lines a.y (sym c.in-Ok.ensures) in
    rw (same_size a.top.now a.top_lines a.bottom.now a.bottom_lines p.0)
    (bottom_ends a.top.now a.top_lines a.bottom.now a.bottom_lines p.0 (a.y / 2) (omega arith))

pub returns-then-y-eq0-clause-result_value : goal.returns-then-y-eq0-clause-result_value
returns-then-y-eq0-clause-result_value c =
    let a = c.args in
    written_done _ [] c.in-Ok.ensures (c.line_of.ensures.result_value ∙ sym (top_line a.top.now a.top_lines a.bottom.now a.bottom_lines a.y c.if-y-eq0.true))

pub returns-else-y-eq0-clause-result_value : goal.returns-else-y-eq0-clause-result_value
returns-else-y-eq0-clause-result_value c =
    let a = c.args in
    written_done _ [] c.in-Ok.ensures (c.line_of-else-y-eq0.ensures.result_value ∙ sym (bottom_line a.top.now a.top_lines a.bottom.now a.bottom_lines a.y c.if-y-eq0.false))
