-- What `to_rgb` gives back (docs/RULES.md, "What the desk gets back": 8 where one of the nine numbers or of the three samples is outside its
-- range or a NaN).
use Rattle.std.specs.Prelude.{ℕ, Bool, ◌&&◌, List, [], ◌∷◌, Float}
use Rattle.laws.specs.Refusal.{lowest}
use Rattle.colour.specs.declared.Conversion.{Conversion}
use Rattle.colour.specs.Colour.{good_conversion, good_samples}

abbrev pub to_rgb_tests : Conversion → Float → Float → Float → List (ℕ × Bool)
to_rgb_tests c y cb cr = (8, good_conversion c && good_samples y cb cr) ∷ []

abbrev pub to_rgb_no : Conversion → Float → Float → Float → ℕ
to_rgb_no c y cb cr = lowest (to_rgb_tests c y cb cr)
