-- Histories of the exported calls on a weaver, from `desk_weaver_new` on, state and store lent back as they were left; refused calls may stand
-- anywhere. First what the calls leave, by the very definitions that their contracts cite; then the fields that the host's numbers mean, spelled out
-- here and nowhere taken from the contracts, so that the two can be held against each other. Lists of calls are newest first.
use Rattle.std.specs.Prelude.{ℕ, ◌<◌, ◌^◌, ◌≡◌, Bool, cond, ◌&&◌, List, [], ◌∷◌, leb, eqb, ℤ, pos, length, Option, None, Some}
use Rattle.field.specs.declared.Parity.TheVariants as parity
use Rattle.plane.specs.declared.Grid.{Grid}
use Rattle.numbers.specs.declared.GridNumbers.{GridNumbers}
use Rattle.weaver.specs.History as calls
use Rattle.weavedesk.specs.Waiting.{whole_size}
use Rattle.weavedesk.specs.Push.{Lent, Offer, new_no, clear_no, emptied, push_no, state_after, store_after}

-- ---- by the calls

-- a time is a number of 64 bits, as the export takes no other
pub data Call : Type 0 where
  new : Call
  push : (o : Offer) → whole_size o.time < 2 ^ 63 → Call
  clear : Call

-- the number that a call gets, and what it leaves
abbrev pub number_of : Lent → Call → ℕ
number_of l new = new_no (length l.state)
number_of l (push o _) = push_no l o
number_of l clear = clear_no (length l.state)

abbrev pub next : Lent → Call → Lent
next l new = record { state = emptied (new_no (length l.state)) l.state; store = l.store }
next l (push o _) = record { state = state_after (push_no l o) l o; store = store_after (push_no l o) l o }
next l clear = record { state = emptied (clear_no (length l.state)) l.state; store = l.store }

-- what `desk_weaver_new` and then these calls leave
abbrev pub after : List ℕ → List ℕ → List Call → Lent
after state store [] = next (record { state = state; store = store }) new
after state store (call ∷ earlier) = next (after state store earlier) call

-- A push that was made: the number that it gave, and what it left at each place. The contract of `desk_weaver_push` comes to this, by the parameters
-- of its signature (proofs/Door.antt).
pub record Pushed (l : Lent) (o : Offer) (given : ℕ) (state store : List ℕ) : Type 0 where
  pub number : given ≡ push_no l o
  pub state_left : state ≡ state_after (push_no l o) l o
  pub store_left : store ≡ store_after (push_no l o) l o

-- ---- what the host means

abbrev pub grid_meant : GridNumbers → Grid
grid_meant n = record { width = n.width; height = n.height; depth = n.depth; stride = n.stride }

-- Parity 0 is top, 1 bottom. Where `timed` is 0 the field has no time, where it is 1 it has this one. Each plane has its own numbers and bytes.
abbrev pub field_meant : Offer → calls.Sent
field_meant o = record {
  field = record {
    shape = record { luma = grid_meant o.shape.luma; cb = grid_meant o.shape.cb; cr = grid_meant o.shape.cr };
    luma = o.luma;
    cb = o.cb;
    cr = o.cr;
  };
  parity = cond (eqb o.parity 0) parity.Top parity.Bottom;
  time = cond (eqb o.timed 0) None (Some o.time);
  luma_room = o.luma_room;
  cb_room = o.cb_room;
  cr_room = o.cr_room;
}

-- the codes name something
abbrev pub codes_named : Offer → Bool
codes_named o = leb o.parity 1 && leb o.timed 1

-- the weaver's calls since the last `new` that the desk's stand for; one whose codes name nothing gets 3 and stands for none
abbrev pub calls_of : List Call → List calls.Call
calls_of [] = []
calls_of (new ∷ earlier) = []
calls_of (push o _ ∷ earlier) = cond (codes_named o) (calls.push (field_meant o) ∷ calls_of earlier) (calls_of earlier)
calls_of (clear ∷ earlier) = calls.clear ∷ calls_of earlier

-- how a time is handed back: 1 and the time, or 0 and 0
abbrev pub timed_of : Option ℤ → ℕ
timed_of None = 0
timed_of (Some at) = 1

abbrev pub time_of : Option ℤ → ℤ
time_of None = pos 0
time_of (Some at) = at
