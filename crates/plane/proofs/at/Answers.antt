use mathlib.Core.Path.{◌≡◌, sym, ap, ◌∙◌}
use lib.Dec.{lit<}
use native.Mathlib.Omega.{arith}
use mir.Facts.{to_z-of_z}
use Rattle.laws.proofs.Bools.{halves}
use Rattle.laws.proofs.Refusal.{first_passes}
use Rattle.plane.specs.Coordinates.{in_reach, bias_of, unbiased}
use Rattle.plane.proofs.Coordinates.{unbiased_bias}
use Rattle.plane.proofs.at.Goals as goal

pub returns-in_err-readable : goal.returns-in_err-readable
returns-in_err-readable c =
    let x-test : c.in_reach.result ≡ in_reach c.args.x = c.in_reach.ensures ∙ ap in_reach (to_z-of_z c.ranges.x) in
    let y-test : c.in_reach-2.result ≡ in_reach c.args.y = c.in_reach-2.ensures ∙ ap in_reach (to_z-of_z c.ranges.y) in
    grind (arith, x-test, y-test)

pub returns : goal.returns
returns c =
    let x-test : c.in_reach.result ≡ in_reach c.args.x = c.in_reach.ensures ∙ ap in_reach (to_z-of_z c.ranges.x) in
    let y-test : c.in_reach-2.result ≡ in_reach c.args.y = c.in_reach-2.ensures ∙ ap in_reach (to_z-of_z c.ranges.y) in
    let reach = halves _ _ (first_passes 3 _ _ (lit< tt) (sym c.in_ok-readable.ensures)) in
    let x-held : unbiased c.biased.result ≡ c.args.x = ap unbiased (c.biased.ensures ∙ ap bias_of (to_z-of_z c.ranges.x)) ∙ unbiased_bias _ (sym x-test ∙ reach.0) in
    let y-held : unbiased c.biased-2.result ≡ c.args.y = ap unbiased (c.biased-2.ensures ∙ ap bias_of (to_z-of_z c.ranges.y)) ∙ unbiased_bias _ (sym y-test ∙ reach.1) in
    grind (arith, x-test, y-test, x-held, y-held)
