use mathlib.Core.Path.{◌∙◌}
use native.Mathlib.Omega.{arith}
use Rattle.fill.proofs.Expanded.{around_stays, trio_stays}
use Rattle.fill.proofs.Request.motion.Goals as goal

pub returns : goal.returns
returns c =
    let few = c.requires.tiled.0.few in
    let near = c.around.ensures in
    let past = c.trio.ensures in
    let coming = c.trio-2.ensures in record {
      moving = record {
        near = around_stays coming.under few (omega arith) (around_stays past.under few (omega arith) near.around);
        past = trio_stays coming.under few (omega arith) past.trio;
        coming = coming.trio;
      };
      rows_len = coming.under.size ∙ (past.under.size ∙ (near.under.size ∙ c.requires.tiled.1));
    }
