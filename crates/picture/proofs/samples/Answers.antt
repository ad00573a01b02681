use mathlib.Core.Path.{◌∙◌}
use lib.ListN.{length}
use Rattle.picture.proofs.Judged.{part_done, done_written}
use Rattle.picture.proofs.samples.Goals as goal

-- the number is 0, so that the samples are written
pub returns : goal.returns
returns c =
    let a = c.args in
    let old = a.out.now in
    let part = c.part in
    done_written old (part.ensures.value ∙ part_done a.place (length old) c.requires.makeable c.requires.inside.0 c.requires.inside.1) part.ensures.out_after
