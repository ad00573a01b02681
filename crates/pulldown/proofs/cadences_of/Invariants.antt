-- The loop keeps the lock of the codes passed, and their cadences.
use Rattle.laws.proofs.Lists.{Filled}
use Rattle.pulldown.specs.Codes.{cadence_of_code}
use Rattle.pulldown.proofs.Codes.{Known}
use Rattle.pulldown.proofs.cadences_of.Given as goal

abbrev pub invariant-loop-code : goal.invariant-loop-code
invariant-loop-code l =
    Filled (cadence_of_code l.initial.codes) l.initial.codes l.codes l.code-index × Known l.initial.codes l.ring l.course l.code-index
