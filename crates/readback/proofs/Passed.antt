-- The copy's number from what the outputs need, what a copy that gets 0 has passed, and what it has written.
use Prim.Native.Nat.{ℕ}
use mathlib.Core.Path.{◌≡◌, refl, sym, ap, ◌∙◌}
use mathlib.Core.Bool.{Bool, true, cond, ◌&&◌, and-eq-true_iff}
use mathlib.Core.List.{[], ◌∷◌, nil≢cons}
use borrow.Author.Tests.{leb-true}
use lib.Dec.{lit<}
use Rattle.laws.specs.Refusal.{lowest, when_done, rising}
use Rattle.laws.proofs.Refusal.{Tells, all_pass, told_value, refused_already, decided_behind}
use Rattle.std.proofs.Common.{Result, Ok, Err}
use Rattle.refusal.specs.declared.Refusal.{Refusal}
use Rattle.refusal.specs.Refusal.{no_of, values_of}
use Rattle.readback.specs.declared.Readback.{Readback}
use Rattle.readback.specs.declared.Sizes.{Sizes}
use Rattle.readback.specs.Readback.{luma_shape, cb_shape, cr_shape, cr_bytes_of, sizes_of, sizes_tests, sizes_no, outputs_hold, readback_tests, readback_no}
use Rattle.readback.specs.Inner.{PlaneReady, with_room}

-- the copy's number, made from what is told of the planes, is that of its own tests
module _ (r : Readback) (luma second third luma_room cb_room cr_room : ℕ) where
  -- 7 stands behind the tests of the planes
  pub seven_behind :
      sizes_no r luma second third ≡ 0
      → readback_no r luma second third luma_room cb_room cr_room ≡ cond (outputs_hold (sizes_of r) luma_room cb_room cr_room) 0 7
  unfolding lowest rising
  seven_behind done = sym (decided_behind 1 (sizes_tests r luma second third) ((7, outputs_hold (sizes_of r) luma_room cb_room cr_room) ∷ []) (lit< tt) tt done)

  pub refusal_stands :
      (sizes_no r luma second third ≡ 0 → ⊥) → readback_no r luma second third luma_room cb_room cr_room ≡ sizes_no r luma second third
  refusal_stands refused = sym (refused_already (sizes_tests r luma second third) ((7, outputs_hold (sizes_of r) luma_room cb_room cr_room) ∷ []) refused)

  pub copy_number :
      (needed : Result Sizes Refusal) → Tells no_of values_of needed (sizes_no r luma second third) (sizes_of r)
      → with_room needed luma_room cb_room cr_room ≡ readback_no r luma second third luma_room cb_room cr_room
  copy_number (Ok sizes) h =
      ap (λ (sizes : Sizes). cond (outputs_hold sizes luma_room cb_room cr_room) 0 7) (told_value h refl refl refl) ∙ sym (seven_behind (sym h.number_is))
  copy_number (Err refused) h =
      h.number_is ∙ sym (refusal_stands (λ done. nil≢cons (h.values_are ∙ ap (λ (k : ℕ). when_done k (sizes_of r)) done)))

-- the planes and outputs of a call
pub record FrameReady (r : Readback) (luma second third luma_room cb_room cr_room : ℕ) : Type 0 where
  pub luma_ready : PlaneReady (luma_shape r) luma luma_room
  pub cb_ready : PlaneReady (cb_shape r) second cb_room
  pub cr_ready : PlaneReady (cr_shape r) (cr_bytes_of r second third) cr_room

each_of_three : (a b c : Bool) → (a && b && c) ≡ true → (a ≡ true) × (b ≡ true) × (c ≡ true)
each_of_three a b c h =
    let front = (and-eq-true_iff (a && b) c).0 h in
    let both = (and-eq-true_iff a b).0 front.0 in
    (both.0, both.1, front.1)

-- what it gets is made from what is told of the planes
module _ (r : Readback) (luma second third luma_room cb_room cr_room : ℕ) (needed : Result Sizes Refusal) (number : no_of needed ≡ sizes_no r luma second third)
    (values : values_of needed ≡ when_done (sizes_no r luma second third) (sizes_of r)) where
  pub judged : {no : ℕ} → no ≡ with_room needed luma_room cb_room cr_room → no ≡ readback_no r luma second third luma_room cb_room cr_room
  judged e = e ∙ copy_number r luma second third luma_room cb_room cr_room needed (record { number_is = number; values_are = values })

  pub passed : 0 ≡ with_room needed luma_room cb_room cr_room → FrameReady r luma second third luma_room cb_room cr_room
  unfolding rising
  passed e =
      let tests = all_pass (readback_tests r luma second third luma_room cb_room cr_room) tt (sym (judged e)) in
      let shapes = each_of_three _ _ _ tests.1.1.0 in
      let planes = each_of_three _ _ _ tests.1.1.1.0 in
      let rooms = each_of_three _ _ _ tests.1.1.1.1.0 in
      record {
        luma_ready = record { good = shapes.0; long = leb-true _ _ planes.0; roomy = leb-true _ _ rooms.0 };
        cb_ready = record { good = shapes.1; long = leb-true _ _ planes.1; roomy = leb-true _ _ rooms.1 };
        cr_ready = record { good = shapes.2; long = leb-true _ _ planes.2; roomy = leb-true _ _ rooms.2 };
      }
