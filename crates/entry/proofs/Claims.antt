-- The claims of specs/Claims.antt.
use Prim.Native.Nat.{ℕ, ◌/◌, ◌<◌}
use native.Mathlib.Omega.{arith}
use mathlib.Core.Path.{◌≡◌, refl}
use mathlib.Core.List.{List, []}
use lib.ListN.{length, get_or}
use Rattle.laws.specs.Refusal.{rising}
use Rattle.laws.proofs.Claims.{lowest_says}
use Rattle.laws.proofs.Lists.{listed_at}
use Rattle.field.specs.Field.{cadence_number}
use Rattle.telecine.specs.History.{cadence_of}
use Rattle.telecine.proofs.Claims.{third_demand}
use Rattle.entry.specs.Entry.{push_in, entry_at, earlier_than, cadence_at, cadences_of, cadences_tests}
use Rattle.entry.specs.Claims.{CadencesSays, EntriesDemanded}
use Rattle.entry.proofs.Entries.{frames_before_lem, all_taken, not_refused}
use Rattle.entry.proofs.Judged.{passed}

pub cadences_says : CadencesSays
unfolding rising
cadences_says bytes room = lowest_says (cadences_tests bytes room) tt

byte_is : (bytes : List ℕ) (k : ℕ) → k < length bytes / 12
    → get_or (cadences_of bytes) k 0 ≡ cadence_number (cadence_of [] (push_in (entry_at bytes k)) (earlier_than bytes k))
unfolding cadence_at
byte_is bytes k h = listed_at (length bytes / 12) (cadence_at bytes) k 0 h

pub entries_demanded : EntriesDemanded
entries_demanded bytes room k done h =
    let few : k < 4000000000 = omega (arith, (passed bytes room refl done).few) in
    record {
      number = frames_before_lem bytes k;
      byte = byte_is bytes k h;
      third = rw (all_taken bytes k (omega arith)) at (third_demand [] (push_in (entry_at bytes k)) (earlier_than bytes k) (not_refused bytes k few));
    }
