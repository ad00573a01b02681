-- What entries have passed that get 0.
use Prim.Native.Nat.{ℕ, ◌/◌}
use native.Mathlib.Omega.{arith}
use mathlib.Core.Path.{◌≡◌, sym, ◌∙◌}
use mathlib.Core.List.{List}
use lib.ListN.{length}
use borrow.Author.Tests.{leb-true}
use Rattle.laws.specs.Refusal.{rising}
use Rattle.laws.proofs.Refusal.{all_pass}
use Rattle.entry.specs.Entry.{cadences_tests, cadences_no}
use Rattle.entry.specs.Inner.{EntriesReady}

pub passed : (bytes : List ℕ) (room : ℕ) {no : ℕ} → no ≡ cadences_no bytes room → no ≡ 0 → EntriesReady (length bytes / 12) (length bytes) room
unfolding rising
passed bytes room e z =
    let all = all_pass (cadences_tests bytes room) tt (sym e ∙ z) in
    record { whole = omega arith; fits = leb-true _ _ all.1.1.0; few = leb-true _ _ all.1.1.1.0 }
