-- The table of docs/RULES.md, "Runs, phases, cadence": what is expected of a frame, and its cadence, by its step. The last argument of
-- `get_or` is the entry of steps from 5 on, which no frame has.
use Rattle.std.specs.Prelude.{ℕ, [], ◌∷◌, get_or}
use Rattle.field.specs.declared.Cadence.{Cadence}
use Rattle.field.specs.declared.Cadence.TheVariants.{None, Whole, Drop, Spanning}
use Rattle.pulldown.specs.declared.Symbol.{Symbol}
use Rattle.pulldown.specs.declared.Symbol.TheVariants.{Still, Moved, RepeatFirst, RepeatSecond}

abbrev pub expected_at : ℕ → Symbol
expected_at step = get_or (Moved ∷ Moved ∷ RepeatFirst ∷ Moved ∷ RepeatSecond ∷ []) step Still

abbrev pub cadence_at : ℕ → Cadence
cadence_at step = get_or (Whole ∷ Whole ∷ Drop ∷ Spanning ∷ Spanning ∷ []) step None
