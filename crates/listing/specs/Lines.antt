-- What the functions that write a line promise. Only their contracts cite it.
use Rattle.std.specs.Prelude.{ℕ, ◌+◌, ◌≤◌, ◌≡◌, List, length}
use Rattle.pages.specs.Pages.{put}
use Rattle.reel.specs.declared.Said.{Said}
use Rattle.listing.specs.declared.Page.{Page}
use Rattle.listing.specs.Listing.{text_of}

-- from its place on a page has room for n bytes
abbrev pub Room : Page → ℕ → Type 0
Room page n = page.at + n ≤ length page.out.now

-- `new` is the same page as `old`, with a text put at its place, behind which its place is now
pub record Wrote (old new : Page) (text : List ℕ) : Type 0 where
  pub same_page : new.out.ghost_name ≡ old.out.ghost_name
  pub same_length : length new.out.now ≡ length old.out.now
  pub ends : new.at ≡ old.at + length text
  pub is : new.out.now ≡ put old.out.now old.at text

-- the text of what was said, which is no longer than a line
abbrev pub WroteLine : Page → Page → Said → Type 0
WroteLine old new said = Wrote old new (text_of said) × (new.at ≤ old.at + 128)
