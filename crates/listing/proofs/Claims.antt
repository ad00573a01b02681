-- The proofs of what specs/Claims.antt claims.
use Prim.Native.Nat.{ℕ, zero, suc}
use mathlib.Core.Path.{◌≡◌, refl, ap, subst, ◌∙◌}
use mathlib.Core.List.{List, ◌++◌}
use lib.ListN.{length, replicate}
use Rattle.laws.specs.Refusal.{lowest}
use Rattle.pages.specs.Run.{fed, text_in, joined}
use Rattle.pages.specs.Claims.{Writes}
use Rattle.pages.proofs.Claims.{pages_are_the_text}
use Rattle.pulldown.specs.Symbols.{symbol_of}
use Rattle.pulldown.specs.Runs.{still_or_expected, agrees, first_phase, contradicts, foretold}
use Rattle.pulldown.specs.Lock.{candidate_of, locked_by, phase_after, advance_of}
use Rattle.entry.specs.Entry.{entry_of}
use Rattle.reel.specs.declared.Said.{Said}
use Rattle.reel.specs.declared.Said.TheVariants.{Quiet, Frame, Totals, Fault}
use Rattle.reel.specs.declared.Reel.{Reel}
use Rattle.reel.specs.declared.Stage.{Stage}
use Rattle.reel.specs.declared.Stage.TheVariants.{Done}
use Rattle.reel.specs.Reel.{whole, pictures, picture_section, entries, entry_section, shape_section, said_of}
use Rattle.reel.specs.Machine.{start_of, want_at, want_of, turn, store_then, left, heard, said_in, reel_after}
use Rattle.reel.proofs.Fine.{none_fine}
use Rattle.reel.proofs.Claims.{reads_every_file}
use Rattle.listing.specs.Listing.{decimal_in, decimal_of, text_of, text_of_all, listing_of}
use Rattle.listing.specs.Example.{example_file, example_listing}
use Rattle.listing.specs.Steps.{Fed, reel_machine}
use Rattle.listing.specs.Claims.{written_in, ListsEveryFile, starts_with, ListsEveryInput, CameByRead, ListsExample}
use Rattle.listing.proofs.Served.{Good, served}

-- what is quiet has no text
heard_text : (said : Said) (more : List Said) → text_of said ++ text_of_all more ≡ text_of_all (heard said more)
heard_text Quiet more = refl
heard_text (Frame n c locked) more = refl
heard_text (Totals t) more = refl
heard_text (Fault why) more = refl

text_of_turns : (k : ℕ) (r : Reel) (store bytes : List ℕ) → written_in k r store bytes ≡ text_of_all (said_in k r store bytes)
text_of_turns zero r store bytes = refl
text_of_turns (suc k) r store bytes =
    rw (text_of_turns k (turn r store bytes).reel (store_then r store bytes) (left r bytes))
    (heard_text (turn r store bytes).said (said_in k (turn r store bytes).reel (store_then r store bytes) (left r bytes)))

pub lists_every_file : ListsEveryFile
unfolding listing_of
lists_every_file bytes =
    let read = reads_every_file bytes in
    record {
      turns = read.turns;
      ends = read.ends;
      writes = text_of_turns read.turns start_of (replicate 16384 0) bytes ∙ ap text_of_all read.says;
      few = read.few;
    }

-- ---- the program's run

fed_reel : (k : ℕ) (r : Reel) (store bytes : List ℕ) → (fed reel_machine k (record { reel = r; store = store }) bytes).reel ≡ reel_after k r store bytes
fed_reel zero r store bytes = refl
fed_reel (suc k) r store bytes = fed_reel k (turn r store bytes).reel (store_then r store bytes) (left r bytes)

fed_text : (k : ℕ) (r : Reel) (store bytes : List ℕ) → text_in reel_machine k (record { reel = r; store = store }) bytes ≡ written_in k r store bytes
fed_text zero r store bytes = refl
fed_text (suc k) r store bytes =
    ap (λ (more : List ℕ). text_of (turn r store bytes).said ++ more) (fed_text k (turn r store bytes).reel (store_then r store bytes) (left r bytes))

wants_none : (r : Reel) → r.stage ≡ Done → want_of r ≡ 0
unfolding want_of
wants_none r e = ap (λ (stage : Stage). want_at stage r.pictured) e

none_fits : Good (record { reel = start_of; store = replicate 16384 0 })
none_fits = record { fine = none_fine; at = tt }

pub lists_every_input : ListsEveryInput
lists_every_input buffer page long wide chunks =
    let lists = lists_every_file (joined chunks) in
    let store : List ℕ = replicate 16384 0 in
    let ends = fed_reel lists.turns start_of store (joined chunks) in
    subst (λ (text : List ℕ). Writes reel_machine 128 (starts_with buffer page chunks) text)
    (fed_text lists.turns start_of store (joined chunks) ∙ lists.writes)
    (pages_are_the_text Fed reel_machine Good 128 buffer page (served (length buffer) long) wide
    (record { reel = start_of; store = store }) none_fits chunks lists.turns
    (wants_none (fed reel_machine lists.turns (record { reel = start_of; store = store }) (joined chunks)).reel (ap (λ (r : Reel). r.stage) ends ∙ lists.ends)))

pub came_by_read : CameByRead
came_by_read l old buffer store page n = refl

-- by computation
pub lists_example : ListsExample
unfolding lowest symbol_of still_or_expected agrees first_phase contradicts foretold candidate_of locked_by phase_after advance_of entry_of whole pictures picture_section entries entry_section shape_section said_of decimal_in decimal_of listing_of example_file example_listing
lists_example = refl
