-- What detector and store hold after a history, by its frames alone: the lock what was seen of them, the kept shape and the store the last
-- picture, and the last parity. It is so fresh and after a reset, and stays so with each push, taken or refused.
use Prim.Native.Nat.{ℕ, zero, suc, ◌+◌, ◌*◌, ◌<◌, ◌≤◌}
use native.Mathlib.Omega.{arith}
use mathlib.Core.Path.{◌≡◌, refl, sym, ap, ◌∙◌}
use mathlib.Core.Bool.{Bool, true, false, cond, ◌&&◌}
use mathlib.Core.List.{List, [], ◌∷◌, ◌++◌}
use lib.Dec.{leb, eqb}
use lib.ListN.{length, drop, length-append, length-drop}
use borrow.Author.Tests.{leb-true, ltb-true, le-leb, ne_eqb}
use Rattle.std.proofs.Common.{Option}
use Rattle.pulldown.specs.declared.Symbol.{Symbol}
use Rattle.laws.specs.Refusal.{rising}
use Rattle.laws.proofs.Refusal.{all_pass}
use Rattle.field.specs.declared.Parity.{Parity}
use Rattle.plane.specs.declared.Shape.{Shape}
use Rattle.plane.specs.Plane.{plane_bytes}
use Rattle.block.specs.Block.{kept_frame}
use Rattle.pulldown.specs.declared.Lock.{Lock}
use Rattle.pulldown.specs.Lock.{advance_of, push_cadence, lock_of}
use Rattle.pulldown.proofs.Claims.{holds, push_taken}
use Rattle.telecine.specs.declared.Measured.{Measured}
use Rattle.telecine.specs.Detector.{seen_measured, seen_picture, measured_tests, kept_bytes, push_tests}
use Rattle.telecine.specs.History.{Push, picture, measured, Call, push, reset, State, number_in, cadence_in, next, after}
use Rattle.telecine.specs.History.{last_picture, last_parity, seen_of, seens, frames_of, refusal_tests, refusal_of, taken}
use Rattle.telecine.proofs.Stored.{kept_by, frame_by, kept_within, kept_long, same_seen}

pub record Reached (room : ℕ) (state : State) (calls : List Call) : Type 0 where
  pub long : length state.store ≡ room
  pub few : frames_of calls ≤ 4000000000
  pub lock : state.detector.lock ≡ lock_of (seens calls)
  pub kept : state.detector.kept ≡ kept_by (last_picture calls)
  pub last : state.detector.last ≡ last_parity calls
  pub rest : List ℕ
  pub begins : state.store ≡ frame_by (last_picture calls) ++ rest

-- ---- fresh and reset
fresh_reached : (store : List ℕ) → Reached (length store) (after store []) []
fresh_reached store = record { long = refl; few = omega arith; lock = refl; kept = refl; last = refl; rest = store; begins = refl }

reset_reached : (room : ℕ) (state : State) (calls : List Call) → Reached room state calls → Reached room (next state reset) (reset ∷ calls)
reset_reached room state calls h =
    record { long = h.long; few = omega arith; lock = refl; kept = refl; last = h.last; rest = state.store; begins = refl }

-- ---- a push that is taken passed its tests
pub few_before : (room : ℕ) (u : Push) (earlier : List Call) → refusal_of room u earlier ≡ 0 → frames_of earlier < 4000000000
unfolding rising
few_before room (picture plane s first) earlier e = ltb-true _ _ (all_pass (refusal_tests room (picture plane s first) earlier) tt e).1.1.1.0
few_before room (measured first m) earlier e = ltb-true _ _ (all_pass (refusal_tests room (measured first m) earlier) tt e).0

fits : (room : ℕ) (plane : List ℕ) (s : Shape) (first : Parity) (earlier : List Call) → refusal_of room (picture plane s first) earlier ≡ 0
    → s.height * s.width ≤ room
unfolding rising
fits room plane s first earlier e = leb-true _ _ (all_pass (refusal_tests room (picture plane s first) earlier) tt e).1.1.0

-- ---- a push
and_true : (a b : Bool) → b ≡ true → a && b ≡ a
and_true true b e = e
and_true false b e = refl

module _ (room : ℕ) (state : State) (earlier : List Call) (h : Reached room state earlier) where
  -- the kept frame fits the store, so it refuses nothing
  kept_fits : leb (kept_bytes (kept_by (last_picture earlier))) room ≡ true
  kept_fits =
      let whole : length (frame_by (last_picture earlier)) + length h.rest ≡ room =
      sym (length-append (frame_by (last_picture earlier)) h.rest) ∙ sym (ap length h.begins) ∙ h.long in
      le-leb (kept_bytes (kept_by (last_picture earlier))) room (omega (arith, whole, kept_within (last_picture earlier)))

  pub frames_known : state.detector.lock.course.taken ≡ frames_of earlier
  frames_known = ap (λ (l : Lock). l.course.taken) h.lock ∙ (holds (seens earlier) h.few).taken

  pub number_known : (u : Push) → number_in state u ≡ refusal_of room u earlier
  number_known (picture plane s first) =
      rw (h.kept, h.long, frames_known, and_true (leb (plane_bytes s) (length plane)) _ kept_fits)
  number_known (measured first m) = rw frames_known

  picture_seen : (plane : List ℕ) (s : Shape) (first : Parity)
      → seen_picture state.detector.kept state.store plane s first ≡ seen_of (picture plane s first) earlier
  picture_seen plane s first = rw (h.kept, h.begins) (same_seen (last_picture earlier) h.rest plane s first)

  measured_seen : (first : Parity) (m : Option Measured) → seen_measured state.detector.last first m ≡ seen_of (measured first m) earlier
  measured_seen first m = rw h.last

  -- the lock with a frame more
  lock_next : (u : Push) (s : Option Symbol) → s ≡ seen_of u earlier → frames_of earlier < 4000000000
      → advance_of state.detector.lock s ≡ lock_of (seens (push u ∷ earlier))
  lock_next u s e few =
      rw (e, h.lock) (sym (push_taken (lock_of (seens earlier)) (seen_of u earlier) (omega (arith, few, (holds (seens earlier) h.few).taken))))

  taken_reached : (u : Push) → refusal_of room u earlier ≡ 0 → Reached room (next state (push u)) (push u ∷ earlier)
  taken_reached (picture plane s first) e =
      let z : number_in state (picture plane s first) ≡ 0 = number_known (picture plane s first) ∙ e in
      let few = few_before room (picture plane s first) earlier e in
      record {
        long = rw (z, length-append, length-drop) (omega (arith, h.long, kept_long plane s, fits room plane s first earlier e));
        few = few;
        lock = rw z (lock_next (picture plane s first) _ (picture_seen plane s first) few);
        kept = rw z;
        last = rw z;
        rest = drop (length (kept_frame plane s)) state.store;
        begins = rw z;
      }
  taken_reached (measured first m) e =
      let z : number_in state (measured first m) ≡ 0 = number_known (measured first m) ∙ e in
      let few = few_before room (measured first m) earlier e in
      record {
        long = h.long;
        few = few;
        lock = rw z (lock_next (measured first m) _ (measured_seen first m) few);
        kept = rw z h.kept;
        last = rw z;
        rest = h.rest;
        begins = h.begins;
      }

-- the cadence that a push gets, if it is not refused
module _ {room : ℕ} (state : State) (earlier : List Call) (h : Reached room state earlier) where
  pub cadence_known : (u : Push) → cadence_in state u ≡ push_cadence (lock_of (seens earlier)) (seen_of u earlier)
  cadence_known (picture plane s first) = rw (picture_seen room state earlier h plane s first, h.lock)
  cadence_known (measured first m) = rw (measured_seen room state earlier h first m, h.lock)

-- a push that is taken comes to a detector that is not full
pub few_taken : (state : State) (u : Push) → number_in state u ≡ 0 → state.detector.lock.course.taken < 4000000000
unfolding rising
few_taken state (picture plane s first) e =
    ltb-true _ _ (all_pass (push_tests state.detector s (length plane) (length state.store)) tt e).1.1.1.0
few_taken state (measured first m) e = ltb-true _ _ (all_pass (measured_tests state.detector) tt e).0

-- a push that is refused
pub refused_leaves : (state : State) (u : Push) → (number_in state u ≡ 0 → ⊥) → next state (push u) ≡ state
refused_leaves state (picture plane s first) h = rw (ne_eqb (number_in state (picture plane s first)) 0 h)
refused_leaves state (measured first m) h = rw (ne_eqb (number_in state (measured first m)) 0 h)

-- ---- any calls
module _ (room : ℕ) (state : State) (u : Push) (earlier : List Call) (h : Reached room state earlier) where
  push_reached : (n : ℕ) → refusal_of room u earlier ≡ n → Reached room (next state (push u)) (cond (eqb n 0) (push u ∷ earlier) earlier)
  push_reached zero e = taken_reached room state earlier h u e
  push_reached (suc n) e =
      rw (ne_eqb (suc n) 0 (omega arith), refused_leaves state u (λ z. omega (arith, z, e, number_known room state earlier h u))) h

pub any_reached : (store : List ℕ) (calls : List Call) → Reached (length store) (after store calls) (taken (length store) calls)
any_reached store [] = fresh_reached store
any_reached store (push u ∷ earlier) =
    push_reached (length store) (after store earlier) u (taken (length store) earlier) (any_reached store earlier) _ refl
any_reached store (reset ∷ earlier) = reset_reached (length store) (after store earlier) (taken (length store) earlier) (any_reached store earlier)
