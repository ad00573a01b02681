-- What a turn of the program's loop leaves, by what the step before asked for.
use Rattle.std.specs.Prelude.{ℕ, ◌-◌, ◌≤◌, ◌≡◌, Bool, true, false, Option, Some, None}
use Rattle.pages.specs.declared.Ask.{Ask}
use Rattle.pages.specs.declared.Ask.TheVariants.{Unit, Read, Write, Stop}
use Rattle.listing.specs.declared.Lister.{Lister}
use Rattle.listing.specs.Steps.{came_lister}

-- what the program goes on with, if it goes on
abbrev pub done_with : Lister → Bool → Option Lister
done_with lister true = Some lister
done_with lister false = None

-- After a read some bytes came, no more than a buffer of that size has room for; nothing else changes what the program holds. It stops where the listing is
-- complete, and where a write says so. How many bytes came and whether a write failed is the system's to say, and no definition knows it.
abbrev pub Answers : Ask → Lister → ℕ → Option Lister → Type 0
Answers Unit after size t = t ≡ done_with after true
Answers (Read from) after size t = (n : ℕ) × (n ≤ size - from) × (t ≡ done_with (came_lister after size n) true)
Answers (Write n) after size t = (written : Bool) × (t ≡ done_with after written)
Answers Stop after size t = t ≡ done_with after false
