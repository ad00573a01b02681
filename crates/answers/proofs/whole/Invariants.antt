use mathlib.Core.Path.{◌≡◌}
use Rattle.answers.specs.Record.{inside_of, every}
use Rattle.answers.proofs.whole.Given as goal

abbrev pub invariant-loop-j : goal.invariant-loop-j
invariant-loop-j l = l.all ≡ every l.j (λ j'. inside_of l.answer l.numbers j')
