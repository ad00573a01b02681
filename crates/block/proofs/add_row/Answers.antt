-- The loop keeps `Added` of the blocks passed.
use mathlib.Core.Path.{◌∙◌}
use native.Mathlib.Omega.{arith}
use lib.ListN.{length, length-set}
use Rattle.block.proofs.Counters.{added_one, part_differing}
use Rattle.block.proofs.add_row.Goals as goal

pub loop-b-preserved : goal.loop-b-preserved
loop-b-preserved c =
    let l = c.loop-b in
    let a = c.args in (
      length-set l.counters l.b _ ∙ l.invariant.0,
      added_one l.invariant.1 (omega arith)
          (c.differ_in.ensures.0
          ∙ part_differing a.new.now a.old.now (length a.new.now) l.b (omega arith) (omega arith) c.part_at.ensures c.part_at-in-loop-b.ensures),
    )
