-- `float::whole_of` meets its contract, by the laws of `proofs/Byte.antt`.
use Rattle.float.proofs.Byte.{whole_above, whole_not_above}
use Rattle.float.proofs.whole_of.Goals as goal

pub returns-then-held-near : goal.returns-then-held-near
returns-then-held-near c = whole_above c.args.held c.requires c.if-held-near.true

pub returns-else-held-near : goal.returns-else-held-near
returns-else-held-near c = whole_not_above c.args.held c.requires c.if-held-near.false
