-- What a program holds of a file in a lent buffer, and what it has to do next.
use Rattle.std.specs.Prelude.{ℕ, ◌+◌, ◌-◌, min, Bool, cond, ◌||◌, List, ◌++◌, leb, eqb, length, take, drop}
use Rattle.std.proofs.Math.Seq.{slice}
use Rattle.pages.specs.declared.Held.{Held}
use Rattle.pages.specs.declared.Ask.{Ask}
use Rattle.pages.specs.declared.Ask.TheVariants.{Unit, Read, Write, Stop}

-- ---- what is held

abbrev pub nothing_held : Held
nothing_held = record { from = 0; to = 0 }

-- the bytes of the buffer from one place up to another
abbrev pub held_of : Held → List ℕ → List ℕ
held_of h buffer = slice h.from h.to buffer

-- moved to the front of the buffer
abbrev pub front_of : Held → List ℕ → Held
front_of h buffer = record { from = 0; to = length (held_of h buffer) }

-- n bytes more, or as many as a buffer of that size has room for
abbrev pub came_of : Held → ℕ → ℕ → Held
came_of h size n = record { from = h.from; to = h.to + min n (size - h.to) }

-- n bytes fewer, from the front on, or none left
abbrev pub without_of : Held → ℕ → Held
without_of h n = record { from = h.from + min n (h.to - h.from); to = h.to }

-- ---- what has to be done next

-- Once no unit is wanted the page is written out, if anything stands in it. Before each unit there is room in the page for the most that it adds,
-- and the unit is held, or the input has ended.
unfoldable pub ask_of : ℕ → Bool → ℕ → ℕ → ℕ → ℕ → Ask
ask_of have ended want used most page =
    cond (eqb want 0)
    (cond (eqb used 0) Stop (Write used))
    (cond (leb (used + most) page) (cond (ended || leb want have) Unit (Read have)) (Write used))

-- ---- a page

-- a text written over a list from a place on
unfoldable pub put : List ℕ → ℕ → List ℕ → List ℕ
put list at text = take at list ++ (text ++ drop (at + length text) list)
