-- What is claimed of what the program tells. proofs/Claims.antt proves each claim under its name in small letters.
use Rattle.std.specs.Prelude.{ℕ, ◌<◌, ◌≡◌, Bool, List, ◌++◌}
use Rattle.refusal.specs.declared.Refusal.{Refusal}
use Rattle.refusal.specs.Refusal.{number_of}
use Rattle.field.specs.declared.Cadence.{Cadence}
use Rattle.reel.specs.declared.Tally.{Tally}
use Rattle.reel.specs.declared.Said.TheVariants.{Frame, Totals, Fault}
use Rattle.listing.specs.Listing.{text_of}
use Rattle.cadence.specs.Told.{refusal_in}

-- Whatever stands before it in a page: where the last line is a fault's, its number is found, and where it is a frame's or the totals', none is. A
-- file's faults have one digit (`FaultsKnown` of `reel`).
pub record Tells (before : List ℕ) : Type 0 where
  pub fault : (n : ℕ) → n < 10 → refusal_in (before ++ text_of (Fault n)) ≡ n
  pub frame : (n : ℕ) (c : Cadence) (locked : Bool) → refusal_in (before ++ text_of (Frame n c locked)) ≡ 0
  pub totals : (t : Tally) → refusal_in (before ++ text_of (Totals t)) ≡ 0

abbrev pub TellsWhatWasSaid : Type 0
TellsWhatWasSaid = (before : List ℕ) → Tells before
