use mathlib.Core.Path.{sym, ap, ◌∙◌}
use mathlib.Core.List.{[], ◌∷◌}
use native.Mathlib.Omega.{arith}
use lib.Ieee.{Float}
use mir.Facts.{to_z-of_z}
use Rattle.plane.specs.Coordinates.{in_reach, parity_of}
use Rattle.filter.specs.Making.{sample_in}
use Rattle.filter.proofs.Places.{sample_placed}
use Rattle.filter.proofs.sample.Goals as goal

pub returns-in_err-judge-clause-result_value : goal.returns-in_err-judge-clause-result_value
returns-in_err-judge-clause-result_value c = grind (arith, ap in_reach (to_z-of_z c.ranges.x), ap in_reach (to_z-of_z c.ranges.y))

pub returns-in_err-judge-clause-result_value_2 : goal.returns-in_err-judge-clause-result_value_2
returns-in_err-judge-clause-result_value_2 c = grind arith

pub sample_at-requires : goal.sample_at-requires
sample_at-requires c =
    let places = sample_placed (to_z-of_z c.ranges.x) (to_z-of_z c.ranges.y) c.biased.ensures c.biased-2.ensures c.args.making _ _ _ c.in_ok-judge.ensures in
    (places.0.room, places.1.room, c.row_parity.ensures ∙ ap parity_of (to_z-of_z c.ranges.y ∙ sym places.1.is))

pub returns-clause-result_value_2 : goal.returns-clause-result_value_2
returns-clause-result_value_2 c =
    let a = c.args in
    let places = sample_placed (to_z-of_z c.ranges.x) (to_z-of_z c.ranges.y) c.biased.ensures c.biased-2.ensures a.making _ _ _ c.in_ok-judge.ensures in
    ap (λ (v : Float). v ∷ []) (c.sample_at.ensures ∙ (λ i. sample_in a.making a.before.now a.cur.now a.after.now (places.0.is i) (places.1.is i)))
