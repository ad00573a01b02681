-- How the tests of a call and those of the call that it hands on make up one number.
use Prim.Native.Nat.{ℕ, ◌*◌, ◌≤◌}
use mathlib.Core.Path.{◌≡◌, refl, sym, ap, ◌∙◌}
use mathlib.Core.Bool.{Bool, true, false, ◌&&◌}
use mathlib.Core.List.{List, [], ◌∷◌}
use lib.Dec.{leb}
use lib.ListN.{length}
use borrow.Author.Tests.{leb-true, le-leb}
use Rattle.laws.specs.Refusal.{lowest, rising, when_done}
use Rattle.laws.proofs.Refusal.{AllPass, all_pass, number_behind, lowest_behind, lowest_alike, lowest_halves, refused_already}
use Rattle.field.specs.declared.Parity.{Parity}
use Rattle.plane.specs.declared.Shape.{Shape}
use Rattle.plane.specs.declared.Grid.{Grid}
use Rattle.plane.specs.Plane.{good_shape, plane_bytes, grid_shape}
use Rattle.numbers.specs.declared.GridNumbers.{GridNumbers}
use Rattle.numbers.specs.Numbers.{grid_named}
use Rattle.numbers.specs.Inner.{cut, cut_grid}
use Rattle.numbers.proofs.Cut.{cut_same, cut_good}
use Rattle.telecine.specs.declared.Detector.{Detector}
use Rattle.telecine.specs.Detector.{kept_bytes, measured_tests, push_no, push_cadence}
use Rattle.block.specs.Answer.{counts_of, count_no, count_values}
use Rattle.filmdesk.specs.Inner.{first_tests}
use Rattle.filmdesk.specs.Film.{picture_named, busy_no, push_state_no}

-- ---- counts of two shapes that are both out of bounds, or one
module _ (bytes store : List ℕ) (parity : ℕ) where
  none : (s : Shape) → good_shape s ≡ false → count_values bytes s store parity ≡ []
  unfolding lowest
  none s bad = rw bad

  module _ (s t : Shape) (verdict : good_shape s ≡ good_shape t) (same : good_shape t ≡ true → s ≡ t) where
    pub same_number : count_no s (length bytes) (length store) ≡ count_no t (length bytes) (length store)
    same_number = lowest_alike 4 _ _ verdict (λ good. ap (λ (s : Shape). count_no s (length bytes) (length store)) (same good))

    pub same_values : count_values bytes s store parity ≡ count_values bytes t store parity
    same_values = by-verdict (good_shape t) refl
      where
        by-verdict : (b : Bool) → good_shape t ≡ b → count_values bytes s store parity ≡ count_values bytes t store parity
        by-verdict true good = ap (λ (s : Shape). count_values bytes s store parity) (same good)
        by-verdict false bad = none s (verdict ∙ bad) ∙ sym (none t bad)

-- ---- the host's numbers, cut to the places of the code
module _ (plane store : List ℕ) (n : GridNumbers) (parity : ℕ) (g : Grid) (is-cut : g ≡ cut_grid (grid_named n)) (named : parity ≤ 1) where
  pub busy_number : count_no (grid_shape g) (length plane) (length store) ≡ busy_no n (length plane) (length store) parity
  busy_number =
      let s = picture_named n in
      (λ i. count_no (grid_shape (is-cut i)) (length plane) (length store))
      ∙ same_number plane store parity (cut s) s (cut_good s) (cut_same s)
      ∙ number_behind 3 (le-leb parity 1 named) refl

  pub busy_values :
      (row : ℕ) → count_values plane (grid_shape g) store row ≡ when_done (busy_no n (length plane) (length store) parity) (counts_of plane (picture_named n) store row)
  busy_values row =
      let s = picture_named n in
      let behind : count_no s (length plane) (length store) ≡ busy_no n (length plane) (length store) parity = number_behind 3 (le-leb parity 1 named) refl in
      (λ i. count_values plane (grid_shape (is-cut i)) store row)
      ∙ same_values plane store row (cut s) s (cut_good s) (cut_same s)
      ∙ (λ i. when_done (behind i) (counts_of plane s store row))

-- ---- a picture is judged in two steps: behind the first, the number is the push's own
module _ (parity : ℕ) (s : Shape) (state : ℕ) where
  pub first_passes : {n : ℕ} → n ≡ lowest (first_tests parity s state) → n ≡ 0 → AllPass (first_tests parity s state)
  unfolding rising
  first_passes e done = all_pass (first_tests parity s state) tt (sym e ∙ done)

  module _ (plane kept : Bool) (tests : List (ℕ × Bool)) where
    abbrev all : List (ℕ × Bool)
    all = (3, leb parity 1) ∷ (4, good_shape s) ∷ (6, leb 96 state && plane && kept) ∷ tests

    pub first_refuses : (lowest (first_tests parity s state) ≡ 0 → ⊥) → lowest (first_tests parity s state) ≡ lowest all
    first_refuses refused =
        let halves = lowest_halves 6 (leb 96 state && plane) kept tests ∙ lowest_halves 6 (leb 96 state) plane ((6, kept) ∷ tests) in
        refused_already (first_tests parity s state) ((6, plane) ∷ (6, kept) ∷ tests) refused
        ∙ lowest_behind 3 (leb parity 1) _ _ (lowest_behind 4 (good_shape s) _ _ (sym halves))

    pub behind_first : AllPass (first_tests parity s state) → lowest ((4, good_shape s) ∷ (6, plane && kept) ∷ tests) ≡ lowest all
    unfolding lowest
    behind_first passed = rw (passed.0, passed.1.0, passed.1.1.0)

pub judged_room : (parity : ℕ) (s : Shape) (state : ℕ) → 0 ≡ lowest (first_tests parity s state) → 96 ≤ state
judged_room parity s state passed = leb-true 96 state (first_passes parity s state passed refl).1.1.0

-- ---- of the host's numbers, cut
module _ (n : GridNumbers) (parity bytes room state : ℕ) (d : Detector) (g : Grid) (is-cut : g ≡ cut_grid (grid_named n)) where
  verdict : good_shape (grid_shape g) ≡ good_shape (picture_named n)
  verdict = ap (λ (g : Grid). good_shape (grid_shape g)) is-cut ∙ cut_good (picture_named n)

  pub push_refused :
      (number : ℕ) → number ≡ lowest (first_tests parity (grid_shape g) state) → (number ≡ 0 → ⊥) → number ≡ push_state_no n parity bytes room state d
  push_refused number e refused =
      let s = picture_named n in
      let first = e ∙ (λ i. lowest ((3, leb parity 1) ∷ (4, verdict i) ∷ (6, leb 96 state) ∷ [])) in
      first
      ∙ first_refuses parity s state (leb (plane_bytes s) bytes) (leb (kept_bytes d.kept) room) ((7, leb (s.height * s.width) room) ∷ measured_tests d)
      (λ zero. refused (first ∙ zero))

  module _ (passed : 0 ≡ lowest (first_tests parity (grid_shape g) state)) where
    pub push_shape : grid_shape g ≡ picture_named n
    push_shape = ap grid_shape is-cut ∙ cut_same (picture_named n) (sym verdict ∙ (first_passes parity (grid_shape g) state passed refl).1.0)

    pub push_number : push_no d (grid_shape g) bytes room ≡ push_state_no n parity bytes room state d
    push_number =
        let s = grid_shape g in
        behind_first parity s state (leb (plane_bytes s) bytes) (leb (kept_bytes d.kept) room) ((7, leb (s.height * s.width) room) ∷ measured_tests d)
        (first_passes parity s state passed refl)
        ∙ (λ i. push_state_of (push_shape i))
      where
        push_state_of : Shape → ℕ
        push_state_of s =
            lowest
            ((3, leb parity 1)
            ∷ (4, good_shape s)
            ∷ (6, leb 96 state && leb (plane_bytes s) bytes && leb (kept_bytes d.kept) room)
            ∷ (7, leb (s.height * s.width) room)
            ∷ measured_tests d)

    -- by the detector and the parity as the code has them
    pub read_number : (before : Detector) → before ≡ d → push_no before (grid_shape g) bytes room ≡ push_state_no n parity bytes room state d
    read_number before e = ap (λ (d : Detector). push_no d (grid_shape g) bytes room) e ∙ push_number

    pub read_values :
        (before : Detector) → before ≡ d → (plane store : List ℕ) (first led : Parity) → first ≡ led →
        when_done (push_no before (grid_shape g) bytes room) (push_cadence before store plane (grid_shape g) first)
        ≡ when_done (push_state_no n parity bytes room state d) (push_cadence d store plane (picture_named n) led)
    read_values before e plane store first led f = λ i. when_done (read_number before e i) (push_cadence (e i) store plane (push_shape i) (f i))
