-- What holds of the definitions here. proofs/Claims.antt proves each under the same name in small letters.
use Rattle.std.specs.Prelude.{◌≡◌, ◌<◌, Bool, true, false, Result, MatchResult}
use Rattle.refusal.specs.declared.Refusal.{Refusal}
use Rattle.refusal.specs.Refusal.{number_of, no_of, values_of}

-- No refusal has the number 0, and no two have the same.
abbrev pub NumbersTell : Type 0
NumbersTell = ((a : Refusal) → 0 < number_of a) × ((a b : Refusal) → number_of a ≡ number_of b → a ≡ b)

-- An answer is settled by its number and its values.
abbrev pub OneAnswered : Type 1
OneAnswered = (A : Type 0) (a b : Result A Refusal) → no_of a ≡ no_of b → values_of a ≡ values_of b → a ≡ b

-- So is an answer without a value by its number alone,
abbrev pub OneDone : Type 0
OneDone = (a b : Result (Unit {0}) Refusal) → no_of a ≡ no_of b → a ≡ b

-- and that of a single test by what was tested.
abbrev pub OneTested : Type 0
OneTested =
    (passes : Bool) (r : Refusal) (a b : Result (Unit {0}) Refusal)
    → MatchResult a (λ _. passes ≡ true) (λ refused. (passes ≡ false) × (refused ≡ r))
    → MatchResult b (λ _. passes ≡ true) (λ refused. (passes ≡ false) × (refused ≡ r)) → a ≡ b
