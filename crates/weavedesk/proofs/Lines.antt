-- How a call ends that copies out a single woven line: refused with the line's own number, refused for want of room, or done.
use Prim.Native.Nat.{ℕ, ◌-◌, ◌*◌, ◌≤◌, ◌<◌}
use mathlib.Core.Path.{◌≡◌, refl, sym, ap, ◌∙◌}
use mathlib.Core.Bool.{true, false}
use mathlib.Core.List.{List, [], ◌∷◌}
use native.Mathlib.Omega.{arith}
use lib.Dec.{leb, lit<}
use lib.ListN.{length, take}
use lib.Seq.{take_all}
use borrow.Author.Tests.{eq-eqb, le-leb, lt-leb}
use Rattle.laws.proofs.Lists.{clamped_row}
use Rattle.laws.proofs.Refusal.{stays, refused_already, decided_behind}
use Rattle.laws.specs.Refusal.{lowest, rising, written}
use Rattle.laws.specs.Rows.{over}
use Rattle.plane.specs.declared.Grid.{Grid}
use Rattle.numbers.specs.declared.GridNumbers.{GridNumbers}
use Rattle.numbers.specs.Numbers.{grid_named}
use Rattle.numbers.specs.Inner.{cut_grid}
use Rattle.weave.specs.Weave.{line_bytes, line_no, line_tests, woven_line}
use Rattle.weave.proofs.Fields.{rows_wide}
use Rattle.weave.proofs.Judged.{line_judged}
use Rattle.weavedesk.specs.Woven.{line_out_no, line_after}
use Rattle.weavedesk.proofs.Narrowed.{line_same}

-- a woven line that is not refused is as long as a line of the top field
line_length :
    (top : List ℕ) (t : Grid) (bottom : List ℕ) (b : Grid) (y : ℕ) →
    line_no t (length top) b (length bottom) y ≡ 0 → length (woven_line top t bottom b y) ≡ line_bytes t
line_length top t bottom b y done =
    let j = line_judged top t bottom b y done in
    ap length (sym (clamped_row (woven_line top t bottom b) (t.height * 2 - 1) y (omega (arith, j.1)))) ∙ rows_wide top t bottom b j.0 y

module _ (top : List ℕ) (t : GridNumbers) (bottom : List ℕ) (b : GridNumbers) (y : ℕ) (out : List ℕ) where
  -- the answer r, and what the output then holds
  abbrev Ends : ℕ → List ℕ → Type 0
  Ends r after =
      (r ≡ line_out_no t (length top) b (length bottom) y (length out))
      × (after ≡ line_after r top t bottom b y out)

  module _ {no : ℕ} (e : no ≡ line_no (grid_named t) (length top) (grid_named b) (length bottom) y) where
    pub line_refused : (no ≡ 0 → ⊥) → Ends no out
    line_refused z = (
      e ∙ refused_already (line_tests (grid_named t) (length top) (grid_named b) (length bottom) y) _ (λ h. z (e ∙ h)),
      stays (over (woven_line top (grid_named t) bottom (grid_named b) y) out) out z,
    )

    module _ (z : no ≡ 0) {upper lower : Grid} (u : upper ≡ cut_grid (grid_named t)) (l : lower ≡ cut_grid (grid_named b)) {line : List ℕ}
        (w : line ≡ written (line_no upper (length top) lower (length bottom) y) (woven_line top upper bottom lower y) []) where
      done : line_no (grid_named t) (length top) (grid_named b) (length bottom) y ≡ 0
      done = sym e ∙ z

      -- a call that gets 0 has shapes that were not cut
      top-lines : upper ≡ grid_named t
      top-lines = u ∙ (line_same t (length top) b (length bottom) y done).0

      bottom-lines : lower ≡ grid_named b
      bottom-lines = l ∙ (line_same t (length top) b (length bottom) y done).1

      the-line : line ≡ woven_line top (grid_named t) bottom (grid_named b) y
      the-line =
          w
          ∙ (λ i. written (line_no (top-lines i) (length top) (bottom-lines i) (length bottom) y) (woven_line top (top-lines i) bottom (bottom-lines i) y) [])
          ∙ simp (eq-eqb _ 0 done)

      long : length line ≡ line_bytes (grid_named t)
      long = ap length the-line ∙ line_length top (grid_named t) bottom (grid_named b) y done

      decided :
          lowest ((7, leb (line_bytes (grid_named t)) (length out)) ∷ []) ≡ line_out_no t (length top) b (length bottom) y (length out)
      unfolding rising
      decided = decided_behind 3 (line_tests (grid_named t) (length top) (grid_named b) (length bottom) y) _ (lit< tt) tt done

      pub line-too-long : length out < length line → Ends 7 out
      unfolding lowest
      line-too-long h =
          let short : leb (line_bytes (grid_named t)) (length out) ≡ false = lt-leb (line_bytes (grid_named t)) (length out) (omega (arith, long, h)) in
          let seven : 7 ≡ lowest ((7, leb (line_bytes (grid_named t)) (length out)) ∷ []) = simp short in
          (seven ∙ decided, refl)

      pub line-copied : {after : List ℕ} → length line ≤ length out → after ≡ over (take (length out) line) out → Ends 0 after
      unfolding lowest
      line-copied h p =
          let enough : leb (line_bytes (grid_named t)) (length out) ≡ true = le-leb (line_bytes (grid_named t)) (length out) (omega (arith, long, h)) in
          let none : 0 ≡ lowest ((7, leb (line_bytes (grid_named t)) (length out)) ∷ []) = simp enough in
          (none ∙ decided, p ∙ ap (λ (bytes : List ℕ). over bytes out) (take_all (length out) line h ∙ the-line))
