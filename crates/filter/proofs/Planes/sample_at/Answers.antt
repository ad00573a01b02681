use mathlib.Core.Path.{sym, ◌∙◌}
use Rattle.filter.proofs.Samples.{woven_mate, woven_own, shown_own, missing_made}
use Rattle.filter.proofs.Planes.sample_at.Goals as goal

pub returns-then-parity-rows : goal.returns-then-parity-rows
returns-then-parity-rows c =
    c.at.ensures ∙ sym (woven_mate _ _ _ _ _ _ _ (sym c.is_weave.ensures ∙ c.if-is_weave.true) (sym c.requires.2 ∙ c.if-parity-rows.true))

pub returns-then-is_weave : goal.returns-then-is_weave
returns-then-is_weave c =
    c.at-then-is_weave.ensures
    ∙ sym (woven_own _ _ _ _ _ _ _ (sym c.is_weave.ensures ∙ c.if-is_weave.true) (λ e. c.if-parity-rows.false (c.requires.2 ∙ e)))

pub returns-then-parity-rows-2 : goal.returns-then-parity-rows-2
returns-then-parity-rows-2 c =
    c.at-then-parity-rows-2.ensures
    ∙ sym (shown_own _ _ _ _ _ _ _ (sym c.is_weave.ensures ∙ c.if-is_weave.false) (sym c.requires.2 ∙ c.if-parity-rows-2.true))

pub returns : goal.returns
returns c =
    c.made.ensures ∙ sym (missing_made _ _ _ _ _ _ _ (sym c.is_weave.ensures ∙ c.if-is_weave.false) (λ e. c.if-parity-rows-2.false (c.requires.2 ∙ e)))
