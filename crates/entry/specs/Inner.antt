-- What inner functions promise. Only their contracts cite it.
use Rattle.std.specs.Prelude.{ℕ, ◌*◌, ◌≤◌, List}
use Rattle.pulldown.specs.Codes.{seen_code}
use Rattle.telecine.specs.History.{seen_of}
use Rattle.entry.specs.Entry.{push_in, entry_at, earlier_than}

-- what is seen of entry k, as a code
unfoldable pub code_at : List ℕ → ℕ → ℕ
code_at bytes k = seen_code (seen_of (push_in (entry_at bytes k)) (earlier_than bytes k))

-- n entries that lie within the bytes, fit the room, and are not too many for a fresh detector
pub record EntriesReady (n bytes room : ℕ) : Type 0 where
  pub whole : 12 * n ≤ bytes
  pub fits : n ≤ room
  pub few : n ≤ 4000000000
