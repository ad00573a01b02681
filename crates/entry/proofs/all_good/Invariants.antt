use mathlib.Core.Path.{◌≡◌}
use Rattle.entry.specs.Entry.{good_entry, entry_at, every_below}
use Rattle.entry.proofs.all_good.Given as goal

abbrev pub invariant-loop-judged : goal.invariant-loop-judged
invariant-loop-judged l = l.good ≡ every_below l.judged (λ k. good_entry (entry_at l.entries k))
