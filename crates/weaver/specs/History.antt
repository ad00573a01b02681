-- Histories of calls on an empty weaver (docs/RULES.md, "Fields and readback"). First what the calls leave, with the store lent back as it was left;
-- then the same from the fields alone: who waits, who is thrown away, who is paired. Lists of calls are newest first.
use Rattle.std.specs.Prelude.{ℕ, Bool, cond, ◌&&◌, ℤ, Option, List, [], ◌∷◌, leb, eqb, length}
use Rattle.laws.specs.Refusal.{lowest}
use Rattle.field.specs.declared.Parity.{Parity}
use Rattle.weave.specs.Weave.{Given, fields_agree, good_field, chroma_fits, whole, room_for}
use Rattle.weaver.specs.declared.Weaver.{Weaver}
use Rattle.weaver.specs.Weaver.{empty_weaver, opposite, field_bytes, push_no, push_weaver, push_store}

-- a field that is pushed, with its parity and time, and the rooms of the three outputs that are lent with it
pub record Sent : Type 0 where
  pub field : Given
  pub parity : Parity
  pub time : Option ℤ
  pub luma_room : ℕ
  pub cb_room : ℕ
  pub cr_room : ℕ

pub data Call : Type 0 where
  push : Sent → Call
  clear : Call

-- ---- by the calls

pub record State : Type 0 where
  pub weaver : Weaver
  pub store : List ℕ

abbrev pub number_in : State → Sent → ℕ
number_in state f = push_no state.weaver f.field f.parity (length state.store) f.luma_room f.cb_room f.cr_room

abbrev pub next : State → Call → State
next state (push f) = record {
  weaver = push_weaver (number_in state f) state.weaver f.field.shape f.parity f.time;
  store = push_store (number_in state f) state.weaver f.field f.parity state.store;
}
next state clear = record { weaver = empty_weaver; store = state.store }

-- the same after calls on an empty weaver and a store of any contents
abbrev pub after : List ℕ → List Call → State
after store [] = record { weaver = empty_weaver; store = store }
after store (call ∷ earlier) = next (after store earlier) call

-- ---- from the fields alone

-- the field that waits, if one does
pub data Waiting : Type 0 where
  none : Waiting
  waits : Sent → Waiting

-- two fields that fit: of opposite parity, of one width, height and depth
abbrev pub mates : Sent → Sent → Bool
mates first second = opposite first.parity second.parity && fields_agree first.field.shape second.field.shape

-- the field that is paired with a new one, if one is
abbrev pub mate_of : Waiting → Sent → Waiting
mate_of none f = none
mate_of (waits first) f = cond (mates first f) (waits first) none

-- Once paired, neither waits. Otherwise the new one does, and one that waited is thrown away.
abbrev pub waiting_then : Waiting → Sent → Waiting
waiting_then none f = waits f
waiting_then (waits first) f = cond (mates first f) none (waits f)

abbrev pub waiting_after : List Call → Waiting
waiting_after [] = none
waiting_after (push f ∷ earlier) = waiting_then (waiting_after earlier) f
waiting_after (clear ∷ earlier) = none

-- What refuses a field, by the length of the store: what it keeps always fits it.
abbrev pub has_room : ℕ → Waiting → Sent → Bool
has_room store none f =
    leb (field_bytes f.field.shape.luma.width f.field.shape.luma.height f.field.shape.luma.depth) store
has_room store (waits first) f = room_for f.field.shape f.luma_room f.cb_room f.cr_room

abbrev pub refusal_tests : ℕ → Sent → List Call → List (ℕ × Bool)
refusal_tests store f earlier =
    (4, good_field f.field.shape)
    ∷ (5, chroma_fits f.field.shape)
    ∷ (6, whole f.field)
    ∷ (7, has_room store (mate_of (waiting_after earlier) f) f)
    ∷ []

abbrev pub refusal_of : ℕ → Sent → List Call → ℕ
refusal_of store f earlier = lowest (refusal_tests store f earlier)

-- a history without the calls that are refused
abbrev pub taken : ℕ → List Call → List Call
taken store [] = []
taken store (push f ∷ earlier) = cond (eqb (refusal_of store f (taken store earlier)) 0) (push f ∷ taken store earlier) (taken store earlier)
taken store (clear ∷ earlier) = clear ∷ taken store earlier
