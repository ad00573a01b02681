-- The loop keeps the field that led in the last of the entries passed, and their codes.
use mathlib.Core.Path.{◌≡◌}
use Rattle.laws.specs.Rows.{listed, over}
use Rattle.telecine.specs.History.{last_parity}
use Rattle.entry.specs.Entry.{earlier_than}
use Rattle.entry.specs.Inner.{code_at}
use Rattle.entry.proofs.write_codes.Given as goal

abbrev pub invariant-loop-k : goal.invariant-loop-k
invariant-loop-k l = (l.out ≡ over (listed l.k (code_at l.entries)) l.initial.out) × (l.last ≡ last_parity (earlier_than l.entries l.k))
