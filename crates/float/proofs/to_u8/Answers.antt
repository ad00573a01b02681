-- `float::to_u8` meets its contract: the whole number that it casts is the cut of the argument.
use mathlib.Core.Path.{◌∙◌}
use Rattle.float.proofs.Byte.{cast_back}
use Rattle.float.proofs.to_u8.Goals as goal

pub float_to_int-result : goal.float_to_int-result
float_to_int-result c = rw c.whole_of.ensures (cast_back c.held_in_byte.result).0

pub returns : goal.returns
returns c = rw c.whole_of.ensures ((cast_back c.held_in_byte.result).1 ∙ c.held_in_byte.ensures.1)
