use mathlib.Core.Path.{◌∙◌}
use Rattle.laws.proofs.Refusal.{done_wrote}
use Rattle.weaver.proofs.weave_lent.Goals as goal

pub returns-clause-out_luma_after : goal.returns-clause-out_luma_after
returns-clause-out_luma_after c = done_wrote _ _ (c.weave.ensures.value ∙ c.requires) c.weave.ensures.out_luma_after

pub returns-clause-out_cb_after : goal.returns-clause-out_cb_after
returns-clause-out_cb_after c = done_wrote _ _ (c.weave.ensures.value ∙ c.requires) c.weave.ensures.out_cb_after

pub returns-clause-out_cr_after : goal.returns-clause-out_cr_after
returns-clause-out_cr_after c = done_wrote _ _ (c.weave.ensures.value ∙ c.requires) c.weave.ensures.out_cr_after
