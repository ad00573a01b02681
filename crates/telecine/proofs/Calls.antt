-- How the push of a picture ends: what it passed, and the detector that the step's parts make.
use Prim.Native.Nat.{ℕ}
use mathlib.Core.Path.{◌≡◌}
use mathlib.Core.Bool.{true}
use mathlib.Core.List.{List}
use lib.Dec.{leb}
use lib.ListN.{length}
use Rattle.std.proofs.Common.{Option}
use Rattle.pulldown.specs.declared.Symbol.{Symbol}
use Rattle.laws.specs.Refusal.{lowest, rising, when_done, written}
use Rattle.laws.specs.Rows.{over}
use Rattle.laws.proofs.Refusal.{AllPass, all_pass}
use Rattle.field.specs.declared.Cadence.{Cadence}
use Rattle.field.specs.declared.Parity.{Parity}
use Rattle.plane.specs.declared.Shape.{Shape}
use Rattle.plane.specs.Plane.{plane_bytes}
use Rattle.block.specs.Block.{kept_frame}
use Rattle.block.specs.Answer.{count_no, keep_no}
use Rattle.pulldown.specs.declared.Lock.{Lock}
use Rattle.pulldown.specs.Lock.{push_lock, advance_of}
use Rattle.pulldown.specs.Lock as lock
use Rattle.laws.proofs.Bools.{and_left}
use Rattle.telecine.specs.declared.Detector.{Detector}
use Rattle.telecine.specs.Detector.{last_after, seen_picture, kept_as}
use Rattle.telecine.specs.Detector.{push_tests, push_no, push_values, push_detector, push_store}

module _ (d : Detector) (store plane : List ℕ) (s : Shape) (first : Parity) (done : push_no d s (length plane) (length store) ≡ 0) where
  all : AllPass (push_tests d s (length plane) (length store))
  unfolding rising
  all = all_pass (push_tests d s (length plane) (length store)) tt done

  long : leb (plane_bytes s) (length plane) ≡ true
  long = and_left _ _ all.1.0

  pub count_done : count_no s (length plane) (length store) ≡ 0
  unfolding lowest
  count_done = rw (all.0, long, all.1.1.0)

  keep_done : keep_no s (length plane) (length store) ≡ 0
  unfolding lowest
  keep_done = rw (all.0, long, all.1.1.0)

  lock_done : lock.push_no d.lock ≡ 0
  unfolding lowest
  lock_done = rw all.1.1.1.0

  pub picture_left : {seen : Option Symbol} {l : Lock} {last : Option Parity} {number : ℕ} {values : List Cadence} {keep-number : ℕ} {kept : List ℕ}
      → seen ≡ seen_picture d.kept store plane s first → l ≡ push_lock d.lock seen → last ≡ last_after d.lock d.last first
      → number ≡ lock.push_no d.lock → values ≡ when_done (lock.push_no d.lock) (lock.push_cadence d.lock seen)
      → keep-number ≡ keep_no s (length plane) (length store) → kept ≡ written keep-number (over (kept_frame plane s) store) store
      → (record { lock = l; kept = kept_as s first; last = last } ≡ push_detector d store plane s first)
      × (number ≡ push_no d s (length plane) (length store)) × (values ≡ push_values d store plane s first) × (kept ≡ push_store d store plane s)
  picture_left seen-is lock-is last_is number_is values_are keep-is kept_is = (
    rw (done, lock-is, last_is, lock_done, seen-is),
    rw (done, number_is, lock_done),
    rw (done, values_are, lock_done, seen-is),
    rw done (rw (keep-is, keep_done) at kept_is),
  )
