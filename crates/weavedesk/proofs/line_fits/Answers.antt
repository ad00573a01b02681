-- A line is outside by the height as given, and the other numbers are those of line 0.
use Prim.Native.Nat.{◌*◌, ◌≤◌, ◌<◌}
use mathlib.Core.Path.{refl, ◌∙◌}
use native.Mathlib.Omega.{arith}
use borrow.Author.Tests.{le-ltb}
use Rattle.laws.specs.Refusal.{lowest}
use Rattle.weave.specs.Weave.{line_no}
use Rattle.weavedesk.proofs.Narrowed as narrowed
use Rattle.weavedesk.proofs.line_fits.Goals as goal

pub returns-then-from : goal.returns-then-from
unfolding lowest
returns-then-from c =
    let past : c.args.top.height * 2 ≤ c.args.y = omega (arith, c.if-from.true, c.from.ensures, c.from-2.ensures) in
    simp (le-ltb _ _ past) refl

pub returns : goal.returns
returns c =
    let a = c.args in
    let inside : a.y < a.top.height * 2 = omega (arith, c.if-from.false, c.from.ensures, c.from-2.ensures) in
    c.line_fits.ensures
    ∙ (λ i. line_no (c.grid_named.ensures i) a.top_bytes (c.grid_named-2.ensures i) a.bottom_bytes 0)
    ∙ narrowed.line_number a.top a.top_bytes a.bottom a.bottom_bytes a.y inside
