-- A program that reads by units and writes pages, run against the chunks that its reads deliver. Such a program is a machine with a buffer and a
-- page; the machine alone says what the units mean.
use Rattle.std.specs.Prelude.{ℕ, zero, suc, ◌+◌, ◌-◌, Bool, false, List, [], ◌∷◌, ◌++◌, eqb, length, take, drop}
use Rattle.laws.specs.Rows.{over}
use Rattle.pages.specs.declared.Held.{Held}
use Rattle.pages.specs.declared.Ask.{Ask}
use Rattle.pages.specs.declared.Ask.TheVariants.{Unit, Read, Write, Stop}
use Rattle.pages.specs.Pages.{nothing_held, held_of, front_of, came_of, without_of, ask_of, put}

-- ---- a machine that is fed a file by units

-- how many bytes it wants next, 0 for none; what a unit leads to; and the text of a unit
pub record Machine (S : Type 0) : Type 0 where
  pub want : S → ℕ
  pub next : S → List ℕ → S
  pub text : S → List ℕ → List ℕ

-- after some units, each as many bytes as are wanted, or what is left
abbrev pub fed : {S : Type 0} → Machine S → ℕ → S → List ℕ → S
fed m zero s bytes = s
fed m (suc k) s bytes = fed m k (m.next s (take (m.want s) bytes)) (drop (m.want s) bytes)

-- the text of some units
abbrev pub text_in : {S : Type 0} → Machine S → ℕ → S → List ℕ → List ℕ
text_in m zero s bytes = []
text_in m (suc k) s bytes = m.text s (take (m.want s) bytes) ++ text_in m k (m.next s (take (m.want s) bytes)) (drop (m.want s) bytes)

-- ---- a program over a machine

-- What it has between two steps. The machine's state stands with what is held of the buffer, how much of the page is used, and whether the input
-- has ended.
pub record Program (S : Type 0) : Type 0 where
  pub state : S
  pub held : Held
  pub used : ℕ
  pub ended : Bool
  pub buffer : List ℕ
  pub page : List ℕ

module _ {S : Type 0} (m : Machine S) where
  -- the unit that is read next
  abbrev pub unit_of : Program S → List ℕ
  unit_of p = take (m.want p.state) (held_of p.held p.buffer)

  -- What a step leaves. A unit is used up, and its text stands in the page; before a read what is held lies at the front; after a write the page
  -- is empty.
  abbrev pub stepped_by : Ask → Program S → Program S
  stepped_by Unit p = record {
    state = m.next p.state (unit_of p);
    held = without_of p.held (m.want p.state);
    used = p.used + length (m.text p.state (unit_of p));
    ended = p.ended;
    buffer = p.buffer;
    page = put p.page p.used (m.text p.state (unit_of p));
  }
  stepped_by (Read from) p = record {
    state = p.state;
    held = front_of p.held p.buffer;
    used = p.used;
    ended = p.ended;
    buffer = over (held_of p.held p.buffer) p.buffer;
    page = p.page;
  }
  stepped_by (Write n) p = record { state = p.state; held = p.held; used = 0; ended = p.ended; buffer = p.buffer; page = p.page }
  stepped_by Stop p = p

module _ {S : Type 0} (m : Machine S) (most : ℕ) where
  -- what has to be done next, where a unit adds at most so many bytes to the page
  abbrev pub asked : Program S → Ask
  asked p = ask_of (length (held_of p.held p.buffer)) p.ended (m.want p.state) p.used most (length p.page)

  abbrev pub stepped : Program S → Program S
  stepped p = stepped_by m (asked p) p

-- after a read that put n bytes into a buffer; where none came, the input has ended
abbrev pub came_to : {S : Type 0} → Program S → List ℕ → ℕ → Program S
came_to p buffer n = record {
  state = p.state;
  held = came_of p.held (length buffer) n;
  used = p.used;
  ended = eqb n 0;
  buffer = buffer;
  page = p.page;
}

-- ---- the system's reads and writes

-- A read of a part of n bytes delivers the next chunk, or as much of it as the part holds, and the rest of it comes next. Where no chunk is left
-- it delivers nothing. A chunk of no bytes is none. A read that fails counts as one that delivers nothing, and the program asks for no more.
abbrev pub delivered : ℕ → List (List ℕ) → List ℕ
delivered n [] = []
delivered n ([] ∷ more) = delivered n more
delivered n ((byte ∷ chunk) ∷ more) = take n (byte ∷ chunk)

abbrev pub undelivered : ℕ → List (List ℕ) → List (List ℕ)
undelivered n [] = []
undelivered n ([] ∷ more) = undelivered n more
undelivered n ((byte ∷ chunk) ∷ more) = drop n (byte ∷ chunk) ∷ more

-- chunks laid end to end
abbrev pub joined : List (List ℕ) → List ℕ
joined [] = []
joined (chunk ∷ more) = chunk ++ joined more

-- the program, and what its reads have still to deliver
pub record World (S : Type 0) : Type 0 where
  pub program : Program S
  pub chunks : List (List ℕ)

-- the system does what is asked: what is read stands in the buffer from the place on that was asked for, and no other byte of it changes
abbrev pub answered : {S : Type 0} → Ask → Program S → List (List ℕ) → World S
answered Unit p chunks = record { program = p; chunks = chunks }
answered (Read from) p chunks =
    let chunk = delivered (length p.buffer - from) chunks in
    record { program = came_to p (put p.buffer from chunk) (length chunk); chunks = undelivered (length p.buffer - from) chunks }
answered (Write n) p chunks = record { program = p; chunks = chunks }
answered Stop p chunks = record { program = p; chunks = chunks }

-- what is written out of a page
abbrev pub written_by : Ask → List ℕ → List ℕ
written_by Unit page = []
written_by (Read from) page = []
written_by (Write n) page = take n page
written_by Stop page = []

module _ {S : Type 0} (m : Machine S) (most : ℕ) where
  abbrev pub world_next : World S → World S
  world_next w = answered (asked m most w.program) (stepped m most w.program) w.chunks

  -- after some steps, and all that they wrote, one page after another
  abbrev pub world_after : ℕ → World S → World S
  world_after zero w = w
  world_after (suc k) w = world_after k (world_next w)

  abbrev pub pages_in : ℕ → World S → List ℕ
  pages_in zero w = []
  pages_in (suc k) w = written_by (asked m most w.program) w.program.page ++ pages_in k (world_next w)

-- a program that has read nothing yet
abbrev pub started : {S : Type 0} → S → List ℕ → List ℕ → List (List ℕ) → World S
started s buffer page chunks = record {
  program = record { state = s; held = nothing_held; used = 0; ended = false; buffer = buffer; page = page };
  chunks = chunks;
}
