-- What is claimed of the listing. proofs/Claims.antt proves each claim under its name in small letters.
use Rattle.std.specs.Prelude.{ℕ, zero, suc, ◌+◌, ◌≤◌, ◌≡◌, List, [], ◌++◌, length, replicate}
use Rattle.pages.specs.Run.{joined, came_to, World}
use Rattle.pages.specs.Claims.{Writes}
use Rattle.reel.specs.declared.Reel.{Reel}
use Rattle.reel.specs.declared.Stage.TheVariants.{Done}
use Rattle.reel.specs.Machine.{start_of, turn, store_then, left, reel_after}
use Rattle.listing.specs.Listing.{text_of, listing_of}
use Rattle.listing.specs.declared.Lister.{Lister}
use Rattle.listing.specs.Steps.{Fed, reel_machine, start_lister, came_lister, program_of}
use Rattle.listing.specs.Example.{example_file, example_listing}

-- what is written in some turns of the machine, fed by units
abbrev pub written_in : ℕ → Reel → List ℕ → List ℕ → List ℕ
written_in zero r store bytes = []
written_in (suc k) r store bytes = text_of (turn r store bytes).said ++ written_in k (turn r store bytes).reel (store_then r store bytes) (left r bytes)

-- Whatever the file, the machine fed by units ends, and what was written is the listing of the whole file.
pub record Lists (bytes : List ℕ) : Type 0 where
  pub turns : ℕ
  pub ends : (reel_after turns start_of (replicate 16384 0) bytes).stage ≡ Done
  pub writes : written_in turns start_of (replicate 16384 0) bytes ≡ listing_of bytes
  pub few : turns ≤ length bytes + 2

abbrev pub ListsEveryFile : Type 0
ListsEveryFile = (bytes : List ℕ) → Lists bytes

-- the program, and the chunks that its reads are to deliver
abbrev pub starts_with : List ℕ → List ℕ → List (List ℕ) → World Fed
starts_with buffer page chunks = record { program = program_of start_lister buffer (replicate 16384 0) page; chunks = chunks }

-- Whatever chunks the reads deliver, the program stops, and the pages that it wrote, one after another, are the listing of the chunks laid end to
-- end: nothing is supposed of the file, nor of how it comes. A buffer holds the largest picture, and a page the longest line.
abbrev pub ListsEveryInput : Type 0
ListsEveryInput =
    (buffer page : List ℕ) → 16384 ≤ length buffer → 128 ≤ length page → (chunks : List (List ℕ)) →
    Writes reel_machine 128 (starts_with buffer page chunks) (listing_of (joined chunks))

-- What `Lister::came` leaves is what a read leaves in that run.
abbrev pub CameByRead : Type 0
CameByRead =
    (l : Lister) (old buffer store page : List ℕ) (n : ℕ) →
    program_of (came_lister l (length buffer) n) buffer store page ≡ came_to (program_of l old store page) buffer n

-- The example of docs/RULES.md.
abbrev pub ListsExample : Type 0
ListsExample = listing_of example_file ≡ example_listing
