use mathlib.Core.Path.{◌≡◌}
use lib.Ieee.{nan}
use lib.ListN.{get_or}
use Rattle.packed.specs.Packed.{number_at}
use Rattle.answers.specs.Record.{every}
use Rattle.answers.specs.Floats.{same_float}
use Rattle.answers.proofs.same_floats.Given as goal

abbrev pub invariant-loop-i : goal.invariant-loop-i
invariant-loop-i l = l.same ≡ every l.i (λ i'. same_float (get_or l.floats i' nan) (number_at l.bytes i'))
