-- The loop keeps `Added` of the blocks passed.
use mathlib.Core.Path.{◌≡◌}
use lib.ListN.{length, get_or}
use Rattle.block.specs.Counters.{differing_in, Added}
use Rattle.block.proofs.add_row.Given as goal

abbrev pub invariant-loop-b : goal.invariant-loop-b
invariant-loop-b l =
    (length l.counters ≡ 512)
    × Added l.initial.counters l.counters (differing_in (λ x. get_or l.new x 0) (λ x. get_or l.old x 0) (length l.new)) l.b
