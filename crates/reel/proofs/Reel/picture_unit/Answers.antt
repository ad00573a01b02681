use mathlib.Core.Path.{◌∙◌}
use borrow.Author.Tests.{leb-true}
use Rattle.reel.proofs.Pushes.{picture_leads, picture_kept}
use Rattle.reel.proofs.Reel.picture_unit.Goals as goal

pub returns-clause-value : goal.returns-clause-value
returns-clause-value c =
    let a = c.args in
    let e = c.push-pushed.ensures in
    let long = rw c.picture_bytes.ensures at (leb-true _ _ c.in_ok-unless.ensures) in
    c.pushed.ensures
    ∙ picture_leads a.self a.n a.store.now a.unit.now c.in-Some.pictured c.push-pushed.result c.in-Some.is long e.detector_value e.answer_value e.answer_value_2

pub returns-clause-store_after : goal.returns-clause-store_after
returns-clause-store_after c =
    let a = c.args in
    let long = rw c.picture_bytes.ensures at (leb-true _ _ c.in_ok-unless.ensures) in
    picture_kept a.self a.store.now a.unit.now _ c.in-Some.pictured c.in-Some.is long c.push-pushed.ensures.store_after
