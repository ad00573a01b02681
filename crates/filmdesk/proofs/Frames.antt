-- A frame that the host gives is a frame pushed to the detector that the state holds: its number, its byte, and what it leaves.
use Prim.Native.Nat.{ℕ}
use mathlib.Core.Path.{◌≡◌, refl, ◌∙◌}
use mathlib.Core.Bool.{Bool, true, false, cond, ◌&&◌}
use mathlib.Core.List.{[], ◌∷◌}
use lib.Dec.{leb, eqb}
use lib.ListN.{length}
use borrow.Author.Tests.{le-leb}
use Rattle.laws.specs.Refusal.{lowest}
use Rattle.field.specs.Field.{parity_named, cadence_number}
use Rattle.telecine.specs.History as calls
use Rattle.filmdesk.specs.Film.{picture_named, measured_named}
use Rattle.filmdesk.specs.History.{Given, picture, counts, push, Lent, number_in, byte_in, next, named, frame_of}
use Rattle.filmdesk.proofs.States.{measured_sized, push_sized}
use Rattle.filmdesk.proofs.Holds.{Holds, written_by, once}

-- ---- numbers: those of the detector's own calls, behind the test of the host's codes and of the state's length
push_tests_lem : (named good long whole kept fits few : Bool) → long ≡ true
    → lowest ((3, named) ∷ (4, good) ∷ (6, long && whole && kept) ∷ (7, fits) ∷ (9, few) ∷ [])
    ≡ cond named (lowest ((4, good) ∷ (6, whole && kept) ∷ (7, fits) ∷ (9, few) ∷ [])) 3
unfolding lowest
push_tests_lem named good long whole kept fits few e = rw e

measured_tests_lem : (named long few : Bool) → long ≡ true
    → lowest ((3, named) ∷ (6, long) ∷ (9, few) ∷ []) ≡ cond named (lowest ((9, few) ∷ [])) 3
unfolding lowest
measured_tests_lem named long few e = rw e

module _ (l : Lent) (s : calls.State) (h : Holds l s) where
  pub long : leb 96 (length l.state) ≡ true
  long = le-leb 96 (length l.state) h.room

  pub number_is : (u : Given) → number_in l u ≡ cond (named u) (calls.number_in s (frame_of u)) 3
  number_is (picture parity plane n) = push_tests_lem _ _ _ _ _ _ _ long ∙ rw (h.detector, h.store) refl
  number_is (counts parity present busy total other-busy other-total) = measured_tests_lem _ _ _ long ∙ rw h.detector refl

  pub number_named : (u : Given) → named u ≡ true → number_in l u ≡ calls.number_in s (frame_of u)
  number_named u e = number_is u ∙ rw e refl

  pub number_unnamed : (u : Given) → named u ≡ false → number_in l u ≡ 3
  number_unnamed u e = number_is u ∙ rw e refl

  pub push_named : (u : Given) → named u ≡ true → Holds (next l (push u)) (calls.next s (calls.push (frame_of u)))
  push_named (picture parity plane n) e =
      let u = picture parity plane n in
      let number = calls.number_in s (frame_of u) in
      let z = push_sized s.detector s.store plane (picture_named n) (parity_named parity) h.sized in
      let w = written_by (eqb number 0) l.state s.detector _ h.room h.detector z in
      rw (number_named u e, h.detector, h.store)
      (record { room = w.room; detector = w.detector ∙ once number _ s.detector; sized = z; store = once number _ s.store })
  push_named (counts parity present busy total other-busy other-total) e =
      let u = counts parity present busy total other-busy other-total in
      let number = calls.number_in s (frame_of u) in
      let z = measured_sized s.detector (parity_named parity) (measured_named present busy total other-busy other-total) h.sized in
      let w = written_by (eqb number 0) l.state s.detector _ h.room h.detector z in
      rw (number_named u e, h.detector)
      (record { room = w.room; detector = w.detector ∙ once number _ s.detector; sized = z; store = h.store })

  pub push_unnamed : (u : Given) → named u ≡ false → Holds (next l (push u)) s
  push_unnamed (picture parity plane n) e = rw (number_unnamed (picture parity plane n) e) h
  push_unnamed (counts parity present busy total other-busy other-total) e =
      rw (number_unnamed (counts parity present busy total other-busy other-total) e) h

  -- the byte of a frame's cadence
  pub byte_is : (u : Given) (before : ℕ) → named u ≡ true → number_in l u ≡ 0 → byte_in l u before ≡ cadence_number (calls.cadence_in s (frame_of u))
  byte_is (picture parity plane n) before e done = rw (done, h.detector, h.store)
  byte_is (counts parity present busy total other-busy other-total) before e done = rw (done, h.detector)
