use mathlib.Core.Path.{◌∙◌}
use Rattle.copy.proofs.Copied.{copy_lays}
use Rattle.readback.proofs.copy_bytes.Goals as goal

pub copy_front-requires : goal.copy_front-requires
copy_front-requires c = tt

pub returns : goal.returns
returns c =
    c.copy_front.ensures ∙ copy_lays c.args.to.now c.args.row.now c.args.width 0 c.requires.target c.requires.source
