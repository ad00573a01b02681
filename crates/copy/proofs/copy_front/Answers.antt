use Rattle.std.proofs.Common.{◌-◌, arith}
use Rattle.copy.proofs.Copied.{copy_starts, copies, copy_ends}
use Rattle.copy.proofs.copy_front.Goals as goal

pub loop-at-init : goal.loop-at-init
loop-at-init c = copy_starts (omega arith) (omega arith) (omega arith)

pub loop-at-preserved : goal.loop-at-preserved
loop-at-preserved c =
    let l = c.loop-at in
    copies l.at (c.min-end.result - l.at) _ l.invariant (omega arith) (omega arith) (omega arith) c.copy_block.ensures

pub returns : goal.returns
returns c = copy_ends c.loop-at.invariant c.min-n.ensures (omega arith)

pub returns-2 : goal.returns-2
returns-2 c =
    let l = c.loop-at in
    copy_ends {x = c.min-n.result}
    (copies l.at (c.min-end.result - l.at) _ l.invariant (omega arith) (omega arith) (omega arith) c.copy_block.ensures) c.min-n.ensures (omega arith)
