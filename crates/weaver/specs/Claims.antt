-- What is claimed of the weaver over calls. proofs/Claims.antt proves each claim under its name in small letters. No claim supposes anything of a
-- history: calls that are refused may stand anywhere, and `taken` leaves them out.
use Rattle.std.specs.Prelude.{ℕ, ◌≡◌, Result, List, [], ◌∷◌, length}
use Rattle.laws.specs.Refusal.{Says}
use Rattle.laws.specs.Rows.{over}
use Rattle.refusal.specs.declared.Refusal.{Refusal}
use Rattle.refusal.specs.Refusal.{no_of}
use Rattle.field.specs.declared.Parity.{Parity}
use Rattle.weave.specs.Weave.{Given}
use Rattle.weaver.specs.declared.Weaver.{Weaver}
use Rattle.weaver.specs.declared.Paired.{Paired}
use Rattle.weaver.specs.Weaver.{woven_by, push_tests, picture_times, picture_luma, picture_cb, picture_cr, push_out, paired_values}
use Rattle.weaver.specs.History.{Sent, Call, push, State, number_in, next, after, Waiting, none, waits, mate_of, waiting_after, refusal_of, taken}

-- 0 exactly when no number applies, and otherwise the lowest that does
abbrev pub PushSays : Type 0
PushSays =
    (w : Weaver) (g : Given) (parity : Parity) (store luma_room cb_room cr_room : ℕ) → Says (push_tests w g parity store luma_room cb_room cr_room)

-- Answers with equal number and values are equal, so the promise of `push` settles its answer.
abbrev pub OnePaired : Type 0
OnePaired = (a b : Result Paired Refusal) → no_of a ≡ no_of b → paired_values a ≡ paired_values b → a ≡ b

-- A refused field leaves any weaver and any store as they were.
abbrev pub RefusedLeaves : Type 0
RefusedLeaves = (state : State) (f : Sent) → (number_in state f ≡ 0 → ⊥) → next state (push f) ≡ state

-- What a field gets is known from the fields before it that were taken, and the length of the store.
abbrev pub RefusalKnown : Type 0
RefusalKnown =
    (store : List ℕ) (f : Sent) (earlier : List Call) → number_in (after store earlier) f ≡ refusal_of (length store) f (taken (length store) earlier)

-- what the outputs hold after a field, of three lists that are lent for them
abbrev pub luma_out : State → Sent → List ℕ → List ℕ
luma_out state f out =
    push_out (number_in state f) state.weaver f.field.shape f.parity (picture_luma state.weaver state.store f.field) out

abbrev pub cb_out : State → Sent → List ℕ → List ℕ
cb_out state f out =
    push_out (number_in state f) state.weaver f.field.shape f.parity (picture_cb state.weaver state.store f.field) out

abbrev pub cr_out : State → Sent → List ℕ → List ℕ
cr_out state f out =
    push_out (number_in state f) state.weaver f.field.shape f.parity (picture_cr state.weaver state.store f.field) out

-- A field with no mate gives no picture and leaves the outputs as they were.
pub record NoPicture (state : State) (f : Sent) : Type 0 where
  pub times : picture_times state.weaver f.field.shape f.parity ≡ []
  pub luma : (out : List ℕ) → luma_out state f out ≡ out
  pub cb : (out : List ℕ) → cb_out state f out ≡ out
  pub cr : (out : List ℕ) → cr_out state f out ≡ out

-- A field with a mate gives that field's time, and the two woven as they were pushed.
pub record Picture (state : State) (first second : Sent) : Type 0 where
  pub times : picture_times state.weaver second.field.shape second.parity ≡ first.time ∷ []
  pub luma :
      (out : List ℕ)
      → luma_out state second out
      ≡ over (woven_by first.parity first.field.luma first.field.shape.luma second.field.luma second.field.shape.luma) out
  pub cb :
      (out : List ℕ)
      → cb_out state second out
      ≡ over (woven_by first.parity first.field.cb first.field.shape.cb second.field.cb second.field.shape.cb) out
  pub cr :
      (out : List ℕ)
      → cr_out state second out
      ≡ over (woven_by first.parity first.field.cr first.field.shape.cr second.field.cr second.field.shape.cr) out

abbrev pub Gives : Waiting → State → Sent → Type 0
Gives none state f = NoPicture state f
Gives (waits first) state f = Picture state first f

-- Over any calls, refused ones among them, the pictures are exactly the weaves of the pairs that the rules name.
abbrev pub PairsWoven : Type 0
PairsWoven =
    (store : List ℕ) (f : Sent) (earlier : List Call) → number_in (after store earlier) f ≡ 0
    → Gives (mate_of (waiting_after (taken (length store) earlier)) f) (after store earlier) f
