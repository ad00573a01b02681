use native.Mathlib.Omega.{arith}
use Rattle.filter.proofs.Motion.{joined}
use Rattle.filter.proofs.Offsets.{unbiased_more, unbiased_less}
use Rattle.filter.proofs.Planes.in_motion.Goals as goal

pub returns : goal.returns
returns c =
    let a = c.args in
    joined _ _ _ _ _ a.along (unbiased_less a.y 1 (omega (arith, c.requires))) (unbiased_more a.y 1)
    c.at-earlier.ensures
    c.at-later.ensures
    c.at-c.ensures
    c.at-e.ensures
    c.at.ensures
    c.at-2.ensures
    c.at-3.ensures
    c.at-4.ensures
    c.mean-average.ensures
    c.gap-change.ensures
    c.wider-above.ensures
    c.wider-below.ensures
    c.beyond-outside.ensures
    c.max.ensures
    c.max-half.ensures
    c.max-2.ensures
    c.hold.ensures
