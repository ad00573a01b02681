use mathlib.Core.Path.{refl, ◌∙◌}
use mathlib.Core.Bool.{◌&&◌}
use native.Mathlib.Omega.{arith}
use lib.Dec.{eqb}
use Rattle.answers.specs.Record.{every}
use Rattle.answers.proofs.Every.{one_more, whole_ends}
use Rattle.answers.proofs.Parts.{found_told}
use Rattle.answers.proofs.whole.Goals as goal

pub loop-j-init : goal.loop-j-init
unfolding every
loop-j-init c = refl

pub loop-j-preserved : goal.loop-j-preserved
loop-j-preserved c = one_more _ _ _ _ c.loop-j.invariant (c.is_some-all.ensures ∙ found_told _ _ _ (λ found h. h.0) c.slice_at.ensures)

pub returns : goal.returns
returns c =
    (λ i. (eqb c.number_at.result (c.from.ensures i) && eqb c.number_at-2.result (c.from-2.ensures i)) && c.loop-j.all)
    ∙ whole_ends _ _ _ _ _ _ _ c.number_at.ensures c.number_at-2.ensures c.loop-j.invariant (omega arith)
