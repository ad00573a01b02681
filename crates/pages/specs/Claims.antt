-- What is claimed of programs that read by units and write pages. proofs/Claims.antt proves each claim under its name in small letters.
use Rattle.std.specs.Prelude.{ℕ, ◌≤◌, ◌≡◌, List, [], length}
use Rattle.pages.specs.declared.Ask.TheVariants.{Stop}
use Rattle.pages.specs.Run.{Machine, fed, text_in, asked, joined, World, world_after, pages_in, started}

-- The program stops, and this is all that it wrote.
pub record Writes {S : Type 0} (m : Machine S) (most : ℕ) (w : World S) (text : List ℕ) : Type 0 where
  pub steps : ℕ
  pub stops : asked m most (world_after m most steps w).program ≡ Stop
  pub writes : pages_in m most steps w ≡ text

-- Kept by every unit: none is longer than a buffer of n bytes, and where none is wanted a unit changes nothing and says nothing.
pub record Serves {S : Type 0} (m : Machine S) (Good : S → Type 0) (n : ℕ) : Type 0 where
  pub stays : (s : S) (unit : List ℕ) → Good s → Good (m.next s unit)
  pub holds : (s : S) → Good s → m.want s ≤ n
  pub rests : (s : S) (unit : List ℕ) → Good s → m.want s ≡ 0 → (m.next s unit ≡ s) × (m.text s unit ≡ [])

-- Whatever chunks the reads deliver, the pages laid end to end are the text of the units of the chunks laid end to end: no byte is lost, or comes
-- twice, or out of order, on its way through the buffer and the page. Supposed is that after some units the machine wants none; then the program stops.
abbrev pub PagesAreTheText : Type 1
PagesAreTheText =
    (S : Type 0) (m : Machine S) (Good : S → Type 0) (most : ℕ) (buffer page : List ℕ) → Serves m Good (length buffer) → most ≤ length page →
    (s : S) → Good s → (chunks : List (List ℕ)) (units : ℕ) → m.want (fed m units s (joined chunks)) ≡ 0 →
    Writes m most (started s buffer page chunks) (text_in m units s (joined chunks))
