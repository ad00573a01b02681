use mathlib.Core.Path.{◌∙◌}
use Prim.Native.Nat.{◌+◌}
use lib.IntN.{pos}
use lib.Ieee.{binary32, add, mul}
use Rattle.filter.specs.Filter.{slant_bias, slanted_of}
use Rattle.filter.specs.Held.{step}
use Rattle.fill.specs.Lines.{better_in}
use Rattle.fill.proofs.Slants.{better_picked}
use Rattle.fill.proofs.Column.tried.Goals as goal

pub returns : goal.returns
unfolding slanted_of
returns c = λ v from count y off s near far l e.
    let x = pos (from + c.args.self.x) in
    c.better.ensures
    ∙ ((λ i.
    better_in (e i) (add binary32 (c.score.ensures v from count y near l i) (mul binary32 slant_bias (c.requires.4 i)))
    (c.near.ensures v from count y near l i) (c.far.ensures v from count y off far l i))
    ∙ better_picked v x y off s (step c.args.t) _)
