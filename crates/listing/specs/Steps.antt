-- The program `cadence` a step at a time: the machine of `reel` with its store and its text, as `pages` runs it.
use Rattle.std.specs.Prelude.{ℕ, false, List, eqb}
use Rattle.pages.specs.declared.Ask.{Ask}
use Rattle.pages.specs.Pages.{nothing_held, came_of}
use Rattle.pages.specs.Run.{Machine, Program, asked, stepped}
use Rattle.reel.specs.declared.Reel.{Reel}
use Rattle.reel.specs.Machine.{start_of, want_of, next_of, store_after}
use Rattle.listing.specs.declared.Lister.{Lister}
use Rattle.listing.specs.Listing.{text_of}

-- the machine's state, with the store that it is lent
pub record Fed : Type 0 where
  pub reel : Reel
  pub store : List ℕ

-- the machine of `reel`, and the text of what a unit says
abbrev pub reel_machine : Machine Fed
reel_machine = record {
  want = λ f. want_of f.reel;
  next = λ f unit. record { reel = (next_of f.reel f.store unit).reel; store = store_after f.reel f.store unit };
  text = λ f unit. text_of (next_of f.reel f.store unit).said;
}

-- a program that has read nothing yet
abbrev pub start_lister : Lister
start_lister = record { reel = start_of; held = nothing_held; used = 0; ended = false }

-- after a read that put n bytes into a buffer of that size; where none came, the input has ended
abbrev pub came_lister : Lister → ℕ → ℕ → Lister
came_lister l size n = record { reel = l.reel; held = came_of l.held size n; used = l.used; ended = eqb n 0 }

-- the program, with its buffer, its store and its page
abbrev pub program_of : Lister → List ℕ → List ℕ → List ℕ → Program Fed
program_of l buffer store page = record {
  state = record { reel = l.reel; store = store };
  held = l.held;
  used = l.used;
  ended = l.ended;
  buffer = buffer;
  page = page;
}

-- what has to be done next, and what a step leaves; no line is longer than 128 bytes
abbrev pub ask_from : Lister → List ℕ → List ℕ → List ℕ → Ask
ask_from l buffer store page = asked reel_machine 128 (program_of l buffer store page)

abbrev pub step_from : Lister → List ℕ → List ℕ → List ℕ → Program Fed
step_from l buffer store page = stepped reel_machine 128 (program_of l buffer store page)
