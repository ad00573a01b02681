-- Laws of a weaver in the state's bytes.
use Prim.Native.Nat.{ℕ, ◌*◌, ◌≤◌}
use mathlib.Core.Path.{◌≡◌, ap, ◌∙◌}
use mathlib.Core.List.{List}
use native.Mathlib.Omega.{arith}
use borrow.Author.Tests.{le-leb}
use lib.ListN.{length}
use Rattle.laws.specs.Refusal.{lowest, written}
use Rattle.laws.specs.Rows.{over}
use Rattle.packed.specs.Packed.{packed_of, pack_no}
use Rattle.weaver.specs.declared.Weaver.{Weaver}
use Rattle.weavedesk.specs.Waiting.{weaver_numbers, keeping}

-- what the write of a weaver's numbers leaves
pub numbers_kept :
    (w : Weaver) (numbers state new : List ℕ) (answer : ℕ) → 56 ≤ length state → numbers ≡ weaver_numbers w →
    answer ≡ pack_no (length numbers) (length state) → new ≡ written answer (over (packed_of numbers) state) state → new ≡ keeping w state
unfolding lowest
numbers_kept w numbers state new answer room same number New-is =
    let count : length numbers ≡ 7 = ap length same in
    let none : pack_no (length numbers) (length state) ≡ 0 = simp (le-leb (8 * length numbers) (length state) (omega arith)) in
    New-is
    ∙ ap (λ (n : ℕ). written n (over (packed_of numbers) state) state) (number ∙ none)
    ∙ ap (λ (list : List ℕ). over (packed_of list) state) same
