-- That the state holds what a history of the detector's own calls leaves, and how a call that writes it, or does not, keeps it so.
use Prim.Native.Nat.{ℕ, ◌≤◌}
use mathlib.Core.Path.{◌≡◌, refl}
use mathlib.Core.Bool.{Bool, true, false, cond}
use mathlib.Core.List.{List, [], ◌∷◌, ◌++◌}
use native.Mathlib.Omega.{arith}
use lib.Dec.{eqb}
use lib.ListN.{length, length-append}
use Rattle.laws.specs.Refusal.{written}
use Rattle.laws.proofs.Rows.{length_over}
use Rattle.packed.specs.Packed.{packed_of}
use Rattle.packed.proofs.Claims.{packed_size}
use Rattle.telecine.specs.declared.Detector.{Detector}
use Rattle.telecine.specs.History as calls
use Rattle.filmdesk.specs.Kept.{detector_numbers, detector_bytes, detector_in, keeping}
use Rattle.filmdesk.specs.History.{Lent}
use Rattle.filmdesk.specs.Claims.{Sized}
use Rattle.filmdesk.proofs.States.{found_again}

-- the state has room, and the detector in it, with the store, are those of a history of the detector's own calls
pub record Holds (l : Lent) (s : calls.State) : Type 0 where
  pub room : 96 ≤ length l.state
  pub detector : detector_in l.state ≡ s.detector
  pub sized : Sized s.detector
  pub store : l.store ≡ s.store

bytes_of : (d : Detector) → Sized d → length (detector_bytes d) ≡ 96
bytes_of d z =
    omega
    (arith, length-append (packed_of (detector_numbers d)) (d.lock.ring ++ (d.lock.course.phase ∷ [])), length-append d.lock.ring (d.lock.course.phase ∷ []), packed_size (detector_numbers d), z.ring)

pub room_after : (d : Detector) (state : List ℕ) → Sized d → 96 ≤ length state → 96 ≤ length (keeping d state)
room_after d state z h = omega (arith, bytes_of d z, length_over (detector_bytes d) state (omega (arith, bytes_of d z)))

-- a call writes a detector to the state, or leaves the state as it was
pub record Written (state : List ℕ) (d : Detector) : Type 0 where
  pub room : 96 ≤ length state
  pub detector : detector_in state ≡ d

pub written_by : (b : Bool) (state : List ℕ) (old d : Detector) → 96 ≤ length state → detector_in state ≡ old → Sized d
    → Written (cond b (keeping d state) state) (cond b d old)
written_by true state old d h e z = record { room = room_after d state z h; detector = found_again d state z }
written_by false state old d h e z = record { room = h; detector = e }

-- the detector's own definitions say a second time what a refusal leaves
pub once : {A : Type 0} (number : ℕ) (value old : A) → written number (written number value old) old ≡ written number value old
once number value old = by_test (eqb number 0)
  where
    by_test : (b : Bool) → cond b (cond b value old) old ≡ cond b value old
    by_test true = refl
    by_test false = refl
