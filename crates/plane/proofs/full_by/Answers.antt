use native.Mathlib.Omega.{arith}
use lib.Pow.{shr_le}
use Rattle.plane.proofs.Full.{ones_left}
use Rattle.plane.proofs.full_by.Goals as goal

pub returns : goal.returns
returns c = (ones_left c.args.spare (omega arith), shr_le 65535 c.args.spare)
