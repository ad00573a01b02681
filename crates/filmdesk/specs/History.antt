-- Histories of the exported calls on a detector, from `desk_detector_new` on, with the state and the store lent back as they were left. First what
-- the calls leave, by the definitions that their contracts cite; then, by the host's own numbers, the frames that it gave. Lists of calls are
-- newest first.
use Rattle.std.specs.Prelude.{ℕ, ◌≡◌, Bool, cond, ◌&&◌, List, [], ◌∷◌, Some, None, leb, eqb, length}
use Rattle.field.specs.declared.Cadence.{Cadence}
use Rattle.field.specs.declared.Cadence.TheVariants as cadence
use Rattle.field.specs.declared.Parity.{Parity}
use Rattle.field.specs.declared.Parity.TheVariants.{Top, Bottom}
use Rattle.plane.specs.declared.Layout.TheVariants.{Planar}
use Rattle.telecine.specs.History as calls
use Rattle.numbers.specs.declared.GridNumbers.{GridNumbers}
use Rattle.filmdesk.specs.Kept.{detector_in}
use Rattle.filmdesk.specs.Film.{new_no, state_no, measured_named, measured_state_no, push_state_no}
use Rattle.filmdesk.specs.Left.{new_state, reset_state, measured_state, measured_byte, pushed_state, pushed_store, pushed_byte}

-- what the host gives with a frame
pub data Given : Type 0 where
  -- to `desk_detector_push`: the byte of the parity, the picture's bytes, and its numbers
  picture : ℕ → List ℕ → GridNumbers → Given
  -- to `desk_detector_push_measured`: the bytes of the parity and of `present`; busy and all blocks of the leading field, then of the trailing
  counts : ℕ → ℕ → ℕ → ℕ → ℕ → ℕ → Given

pub data Call : Type 0 where
  new : Call
  push : Given → Call
  reset : Call

-- ---- by the calls

pub record Lent : Type 0 where
  pub state : List ℕ
  pub store : List ℕ

-- the number that a frame gets, and what its cadence's byte holds then, of what it held before
abbrev pub number_in : Lent → Given → ℕ
number_in l (picture parity plane n) = push_state_no n parity (length plane) (length l.store) (length l.state) (detector_in l.state)
number_in l (counts parity present busy total other-busy other-total) = measured_state_no parity present (length l.state) (detector_in l.state)

abbrev pub byte_in : Lent → Given → ℕ → ℕ
byte_in l (picture parity plane n) byte = pushed_byte (number_in l (picture parity plane n)) l.state l.store plane n parity byte
byte_in l (counts parity present busy total other-busy other-total) byte =
    measured_byte (number_in l (counts parity present busy total other-busy other-total)) l.state parity
    (measured_named present busy total other-busy other-total) byte

-- the number that any call gets, and what it leaves
abbrev pub number_of : Lent → Call → ℕ
number_of l new = new_no (length l.state)
number_of l (push u) = number_in l u
number_of l reset = state_no (length l.state)

abbrev pub next : Lent → Call → Lent
next l new = record { state = new_state (number_of l new) l.state; store = l.store }
next l (push (picture parity plane n)) = record {
  state = pushed_state (number_in l (picture parity plane n)) l.state l.store plane n parity;
  store = pushed_store (number_in l (picture parity plane n)) l.state l.store plane n;
}
next l (push (counts parity present busy total other-busy other-total)) = record {
  state =
      measured_state (number_in l (counts parity present busy total other-busy other-total)) l.state parity
      (measured_named present busy total other-busy other-total);
  store = l.store;
}
next l reset = record { state = reset_state (number_of l reset) l.state; store = l.store }

-- what `desk_detector_new` and then these calls leave
abbrev pub after : Lent → List Call → Lent
after l [] = next l new
after l (call ∷ earlier) = next (after l earlier) call

-- A call that was made: the number that it gave, and what it left. The contract of each export comes to this, by the parameters of its signature
-- (proofs/Door.antt).
pub record Made (l : Lent) (call : Call) (given : ℕ) (state store : List ℕ) : Type 0 where
  pub number : given ≡ number_of l call
  pub state_left : state ≡ (next l call).state
  pub store_left : store ≡ (next l call).store

-- ---- by the host's numbers

-- the byte of a parity is 0 top or 1 bottom, that of `present` 0 or 1; others name nothing
abbrev pub parity_given : ℕ → Parity
parity_given byte = cond (eqb byte 0) Top Bottom

abbrev pub named : Given → Bool
named (picture parity plane n) = leb parity 1
named (counts parity present busy total other-busy other-total) = leb parity 1 && leb present 1

-- the frame that was given; a picture's codes are not shifted
abbrev pub frame_of : Given → calls.Push
frame_of (picture parity plane n) =
    calls.picture plane (record { width = n.width; height = n.height; depth = n.depth; stride = n.stride; layout = Planar }) (parity_given parity)
frame_of (counts parity present busy total other-busy other-total) =
    calls.measured (parity_given parity)
    (cond (eqb present 0) None (Some (record { leading = record { busy = busy; total = total }; trailing = record { busy = other-busy; total = other-total } })))

-- the byte that stands for a cadence
abbrev pub byte_of : Cadence → ℕ
byte_of cadence.None = 0
byte_of cadence.Whole = 1
byte_of cadence.Drop = 2
byte_of cadence.Spanning = 3

-- the frames and resets since the last `new`; a frame that nothing names is none
abbrev pub calls_of : List Call → List calls.Call
calls_of [] = []
calls_of (new ∷ earlier) = []
calls_of (push u ∷ earlier) = cond (named u) (calls.push (frame_of u) ∷ calls_of earlier) (calls_of earlier)
calls_of (reset ∷ earlier) = calls.reset ∷ calls_of earlier

-- those of them that were not refused, which the frames and the store's length tell (`RefusalKnown` of Claims)
abbrev pub taken : ℕ → List Call → List calls.Call
taken room made = calls.taken room (calls_of made)
