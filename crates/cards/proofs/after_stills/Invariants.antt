use Rattle.std.proofs.Common.{◌≤◌}
use Rattle.cards.proofs.after_stills.Given as goal

abbrev pub invariant-loop-taken : goal.invariant-loop-taken
invariant-loop-taken l = l.kept ≤ l._taken
