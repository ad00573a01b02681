use mathlib.Core.Path.{refl, sym, ap, ◌∙◌}
use native.Mathlib.Nat.{le_of_eq}
use native.Mathlib.Omega.{arith}
use lib.ListN.{length}
use Rattle.laws.proofs.Lists.{stack_starts, stacks, stack_ends, length_laid}
use Rattle.laws.proofs.Rows.{over_all}
use Rattle.picture.specs.Picture.{pixel_of}
use Rattle.picture.specs.Inner.{painted_row}
use Rattle.picture.proofs.paint_row.Invariants.{pixel}
use Rattle.picture.proofs.paint_row.Goals as goal

pub loop-x-init : goal.loop-x-init
loop-x-init c = stack_starts (λ x. refl)

pub loop-x-preserved : goal.loop-x-preserved
loop-x-preserved c =
    stacks (λ x. refl) c.loop-x.invariant c.loop-x-test.true (le_of_eq (sym c.requires.1)) refl
    (c.put.ensures ∙ ap pixel_of c.converted-rgb.ensures)

pub returns : goal.returns
unfolding painted_row
returns c =
    let a = c.args in
    let whole = length_laid (pixel a.conversion a.row.luma.now a.row.cb.now a.row.cr.now) 4 (λ x. refl) (length a.row.luma.now) in
    stack_ends (λ x. refl) c.loop-x.invariant (omega arith) ∙ over_all _ a.out.now (c.requires.1 ∙ sym whole)
