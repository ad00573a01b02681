use mathlib.Core.Path.{◌∙◌}
use lib.ListN.{length}
use Rattle.picture.proofs.Picked.{refused_stays, picture_paintable, picture_fits, picture_painted}
use Rattle.picture.proofs.picture_of.Goals as goal

pub returns-in_err-judge-clause-out_after : goal.returns-in_err-judge-clause-out_after
returns-in_err-judge-clause-out_after c = refused_stays c.from_residual.result _ _ c.from_residual.ensures.0

pub invariant_of-job : goal.invariant_of-job
invariant_of-job c = record {
  paintable = picture_paintable c.args.asked _ _ _ c.recipe_for.ensures c.pick.ensures c.pick-2.ensures (length c.args.out.now) c.in_ok-judge.ensures;
}

pub paint-requires : goal.paint-requires
paint-requires c = record {
  width_in_bounds = picture_fits c.args.asked _ _ _ c.recipe_for.ensures c.pick.ensures c.pick-2.ensures (length c.args.out.now) c.in_ok-judge.ensures;
}

pub returns-clause-out_after : goal.returns-clause-out_after
returns-clause-out_after c =
    c.paint.ensures ∙ picture_painted c.args.asked _ _ _ c.recipe_for.ensures c.pick.ensures c.pick-2.ensures c.args.out.now
