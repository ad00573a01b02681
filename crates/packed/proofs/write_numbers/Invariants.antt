-- The loop keeps `Stacked` of the numbers passed.
use lib.ListN.{length, get_or}
use Rattle.laws.proofs.Lists.{Stacked}
use Rattle.packed.specs.Packed.{eight_bytes}
use Rattle.packed.proofs.write_numbers.Given as goal

abbrev pub invariant-loop-k : goal.invariant-loop-k
invariant-loop-k l = Stacked (λ k'. eight_bytes (get_or l.numbers k' 0)) 8 (length l.numbers) l.initial.bytes l.bytes l.k
