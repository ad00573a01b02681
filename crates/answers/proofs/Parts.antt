-- Slices of a record, from where they start and how long they are.
use Prim.Native.Nat.{ℕ, ◌+◌, ◌-◌, ◌≤◌, ◌<◌}
use mathlib.Core.Path.{◌≡◌, sym}
use mathlib.Core.Bool.{Bool, true, false}
use mathlib.Core.List.{List}
use native.Mathlib.Omega.{arith}
use lib.ListN.{length, take, drop}
use Rattle.std.proofs.Common.{Option, None, Some, MatchOption, is_some}
use borrow.Author.Tests.{le-leb, lt-leb}
use Rattle.answers.specs.Record.{start_of, size_of, inside_of, bytes_of, place_of}

module _ (answer : List ℕ) (numbers j from n : ℕ) (starts : from ≡ start_of answer numbers j) (counts : n ≡ size_of answer numbers j) where
  -- one within its record, what it holds and where it stands
  module _ (starts_within : from ≤ length answer) (ends_within : n ≤ length answer - from) where
    pub lies_inside : inside_of answer numbers j ≡ true
    unfolding inside_of
    lies_inside = rw (← starts, ← counts, le-leb from (length answer) starts_within, le-leb n (length answer - from) ends_within)

    pub cuts : take (from + n - from) (drop from answer) ≡ bytes_of answer numbers j
    unfolding bytes_of
    cuts =
        let same : from + n - from ≡ n = omega arith in
        rw (same, lies_inside, ← starts, ← counts)

    pub cuts_at : (place : ℕ × ℕ) → ◌≡◌ {A = ℕ × ℕ} (place.0, from + place.1) (place_of place answer numbers j)
    unfolding place_of
    cuts_at place = rw (lies_inside, ← starts)

  -- one that is not
  pub starts_outside : length answer < from → inside_of answer numbers j ≡ false
  unfolding inside_of
  starts_outside h = rw (← starts, lt-leb from (length answer) h)

  pub ends_outside : from ≤ length answer → length answer - from < n → inside_of answer numbers j ≡ false
  unfolding inside_of
  ends_outside h k = rw (← starts, ← counts, le-leb from (length answer) h, lt-leb n (length answer - from) k)

-- whether there is one, told by what comes of it
pub found_told :
    {A : Type 0} (P : A → Type 0) (r : Option A) (b : Bool) → ((x : A) → P x → b ≡ true) → MatchOption r (b ≡ false) P → is_some r ≡ b
found_told P None b told h = sym h
found_told P (Some x) b told h = sym (told x h)
