-- What holds of the definitions here. proofs/Claims.antt proves each under the same name in small letters.
use Rattle.std.specs.Prelude.{ℕ, Bool, List, T}
use Rattle.laws.specs.Refusal.{rising, Says}

-- Of tests whose numbers are 1 or more and rise, `lowest` gives n exactly when n's test fails and no lower one's does, and 0 exactly when none does.
abbrev pub LowestSays : Type 0
LowestSays = (tests : List (ℕ × Bool)) → T (rising 1 tests) → Says tests
