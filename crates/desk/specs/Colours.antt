-- Colour by number (docs/RULES.md, "Colour and comb"; "What the desk gets back": 3 for a code that names nothing).
use Rattle.std.specs.Prelude.{ℕ, Bool, cond, List, [], ◌∷◌, leb, eqb}
use Rattle.laws.specs.Refusal.{lowest}
use Rattle.colour.specs.declared.Primaries.{Primaries}
use Rattle.colour.specs.declared.Primaries.TheVariants.{Bt709, Bt2020}

-- 0 BT.709, 1 BT.2020; another code names nothing and is refused
abbrev pub primaries_named : ℕ → Primaries
primaries_named code = cond (eqb code 0) Bt709 Bt2020

abbrev pub luma_tests : ℕ → List (ℕ × Bool)
luma_tests code = (3, leb code 1) ∷ []

abbrev pub luma_no : ℕ → ℕ
luma_no code = lowest (luma_tests code)
