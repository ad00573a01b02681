-- What weaver and store hold after a history, by who waits: the weaver that field's shape, parity and time, and the store's front its planes. It is
-- so at the start and after a `clear`, and stays so with each push, taken or refused.
use Prim.Native.Nat.{ℕ, zero, suc, ◌+◌, ◌≤◌}
use native.Mathlib.Omega.{arith}
use mathlib.Core.Path.{◌≡◌, refl, sym, ap, subst, ◌∙◌}
use mathlib.Core.Bool.{Bool, true, false, cond, ◌&&◌, and_assoc, and-true}
use mathlib.Core.List.{List, [], ◌∷◌, ◌++◌}
use lib.Dec.{leb, eqb}
use lib.ListN.{length, drop, length-append}
use borrow.Author.Tests.{leb-true, le-leb, ne_eqb}
use Rattle.laws.specs.Refusal.{lowest, written}
use Rattle.laws.specs.Rows.{over}
use Rattle.laws.proofs.Rows.{length_over}
use Rattle.weave.specs.Weave.{good_field, chroma_fits, whole, room_for}
use Rattle.weaver.specs.declared.Weaver.{Weaver}
use Rattle.weaver.specs.Weaver.{packed_field, field_bytes, empty_weaver, waiting_for, kept_bytes, opposite, fits, push_no}
use Rattle.weaver.specs.History.{Sent, Call, push, clear, State, number_in, next, after}
use Rattle.weaver.specs.History.{Waiting, none, waits, mates, mate_of, waiting_then, waiting_after, has_room, refusal_of, taken}
use Rattle.weaver.proofs.Packed.{Sound, field_packed}
use Rattle.weaver.proofs.Judged.{sound, Passed, passed}

-- ---- by the field that waits

abbrev pub weaver_by : Waiting → Weaver
weaver_by none = empty_weaver
weaver_by (waits f) = waiting_for f.field.shape f.parity f.time

abbrev pub packed_by : Waiting → List ℕ
packed_by none = []
packed_by (waits f) = packed_field f.field

abbrev pub SoundBy : Waiting → Type 0
SoundBy none = Unit {0}
SoundBy (waits f) = Sound f.field

-- whether it and a new one are mates
abbrev pub mates_by : Waiting → Sent → Bool
mates_by none f = false
mates_by (waits first) f = mates first f

abbrev refusal_by : ℕ → Waiting → Sent → ℕ
refusal_by room w f =
    lowest
    ((4, good_field f.field.shape) ∷ (5, chroma_fits f.field.shape) ∷ (6, whole f.field) ∷ (7, has_room room (mate_of w f) f) ∷ [])

pub record Reached (room : ℕ) (state : State) (w : Waiting) : Type 0 where
  pub long : length state.store ≡ room
  pub weaver : state.weaver ≡ weaver_by w
  pub rest : List ℕ
  pub begins : state.store ≡ packed_by w ++ rest
  pub sound : SoundBy w

-- ---- the number

fits_by : (w : Waiting) (f : Sent) → fits (weaver_by w) f.field.shape f.parity ≡ mates_by w f
fits_by none f = refl
fits_by (waits first) f =
    let l = first.field.shape.luma in
    let m = f.field.shape.luma in
    let other = opposite first.parity f.parity in
    let wide = eqb l.width m.width in
    let high = eqb l.height m.height in
    let deep = eqb l.depth m.depth in
    ap (λ (t : Bool). t && deep) (and_assoc other wide high) ∙ and_assoc other (wide && high) deep

-- what is kept fits the store, so it refuses nothing
kept_within : (w : Waiting) → SoundBy w → kept_bytes (weaver_by w) ≤ length (packed_by w)
kept_within none s = omega arith
kept_within (waits f) s = omega (arith, field_packed f.field s)

module _ (room : ℕ) (f : Sent) where
  abbrev field_room : Bool
  field_room = leb (field_bytes f.field.shape.luma.width f.field.shape.luma.height f.field.shape.luma.depth) room

  abbrev out_room : Bool
  out_room = room_for f.field.shape f.luma_room f.cb_room f.cr_room

  room_if : (first : Sent) (t : Bool) → cond t out_room field_room ≡ has_room room (cond t (waits first) none) f
  room_if first true = refl
  room_if first false = refl

  room_by : (w : Waiting) → cond (mates_by w f) out_room field_room ≡ has_room room (mate_of w f) f
  room_by none = refl
  room_by (waits first) = room_if first (mates first f)

  number_by : (w : Waiting) → kept_bytes (weaver_by w) ≤ room
      → push_no (weaver_by w) f.field f.parity room f.luma_room f.cb_room f.cr_room ≡ refusal_by room w f
  number_by w e =
      let long = ap (λ (t : Bool). whole f.field && t) (le-leb (kept_bytes (weaver_by w)) room e) ∙ and-true (whole f.field) in
      let roomy : cond (fits (weaver_by w) f.field.shape f.parity) out_room field_room ≡ has_room room (mate_of w f) f =
      ap (λ (t : Bool). cond t out_room field_room) (fits_by w f) ∙ room_by w in
      λ i. lowest ((4, good_field f.field.shape) ∷ (5, chroma_fits f.field.shape) ∷ (6, long i) ∷ (7, roomy i) ∷ [])

module _ (room : ℕ) (state : State) (w : Waiting) (h : Reached room state w) (f : Sent) where
  pub fits_known : fits state.weaver f.field.shape f.parity ≡ mates_by w f
  fits_known = ap (λ (weaver : Weaver). fits weaver f.field.shape f.parity) h.weaver ∙ fits_by w f

  kept_fits : kept_bytes (weaver_by w) ≤ room
  kept_fits =
      let all : length (packed_by w) + length h.rest ≡ room =
      sym (length-append (packed_by w) h.rest) ∙ sym (ap length h.begins) ∙ h.long in
      omega (arith, all, kept_within w h.sound)

  pub number_known : number_in state f ≡ refusal_by room w f
  number_known =
      (λ i. push_no (h.weaver i) f.field f.parity (h.long i) f.luma_room f.cb_room f.cr_room) ∙ number_by room f w kept_fits

-- ---- a field that is taken
module _ (room : ℕ) (state : State) (f : Sent) (long : length state.store ≡ room) (s : Sound f.field) where
  abbrev afterwards : Bool → State
  afterwards t = record {
    weaver = cond t empty_weaver (waiting_for f.field.shape f.parity f.time);
    store = cond t state.store (over (packed_field f.field) state.store);
  }

  reached_if : (t : Bool) → cond t true (field_room room f) ≡ true → Reached room (afterwards t) (cond t none (waits f))
  reached_if true e = record { long = long; weaver = refl; rest = state.store; begins = refl; sound = tt }
  reached_if false e =
      let size = field_packed f.field s in
      let enough = leb-true (field_bytes f.field.shape.luma.width f.field.shape.luma.height f.field.shape.luma.depth) room e in
      record {
        long = length_over (packed_field f.field) state.store (omega (arith, size, enough, long)) ∙ long;
        weaver = refl;
        rest = drop (length (packed_field f.field)) state.store;
        begins = refl;
        sound = s;
      }

then_is : (w : Waiting) (f : Sent) → cond (mates_by w f) none (waits f) ≡ waiting_then w f
then_is none f = refl
then_is (waits first) f = refl

roomy_if : (t a b : Bool) → cond t a b ≡ true → cond t true b ≡ true
roomy_if true a b e = refl
roomy_if false a b e = e

module _ (room : ℕ) (state : State) (w : Waiting) (h : Reached room state w) (f : Sent) (z : number_in state f ≡ 0) where
  pub tests :
      Passed state.weaver f.field (fits state.weaver f.field.shape f.parity) (length state.store) f.luma_room f.cb_room f.cr_room
  tests =
      passed state.weaver f.field (fits state.weaver f.field.shape f.parity) (length state.store) f.luma_room f.cb_room f.cr_room z

  taken_reached : Reached room (next state (push f)) (waiting_then w f)
  taken_reached =
      let fit = fits_known room state w h f in
      let s = sound f.field tests.good tests.halved tests.long in
      let roomy : cond (mates_by w f) (out_room room f) (field_room room f) ≡ true =
      sym (λ i. cond (fit i) (out_room room f) (leb (field_bytes f.field.shape.luma.width f.field.shape.luma.height f.field.shape.luma.depth) (h.long i)))
      ∙ tests.roomy in
      let step : next state (push f) ≡ afterwards room state f h.long s (mates_by w f) =
      λ i. record {
        weaver = written (z i) (cond (fit i) empty_weaver (waiting_for f.field.shape f.parity f.time)) state.weaver;
        store = written (z i) (cond (fit i) state.store (over (packed_field f.field) state.store)) state.store;
      } in
      subst (λ (later : State). Reached room later (waiting_then w f)) (sym step)
      (subst (λ (waiting : Waiting). Reached room (afterwards room state f h.long s (mates_by w f)) waiting) (then_is w f)
      (reached_if room state f h.long s (mates_by w f) (roomy_if (mates_by w f) (out_room room f) (field_room room f) roomy)))

pub refused_leaves : (state : State) (f : Sent) → (number_in state f ≡ 0 → ⊥) → next state (push f) ≡ state
refused_leaves state f h = rw (ne_eqb (number_in state f) 0 h)

-- ---- any calls
module _ (room : ℕ) (state : State) (f : Sent) (earlier : List Call) (h : Reached room state (waiting_after earlier)) where
  push_reached : (n : ℕ) → refusal_of room f earlier ≡ n → Reached room (next state (push f)) (waiting_after (cond (eqb n 0) (push f ∷ earlier) earlier))
  push_reached zero e = taken_reached room state (waiting_after earlier) h f (number_known room state (waiting_after earlier) h f ∙ e)
  push_reached (suc n) e =
      rw (ne_eqb (suc n) 0 (omega arith), refused_leaves state f (λ z. omega (arith, z, e, number_known room state (waiting_after earlier) h f))) h

pub any_reached : (store : List ℕ) (calls : List Call) → Reached (length store) (after store calls) (waiting_after (taken (length store) calls))
any_reached store [] = record { long = refl; weaver = refl; rest = store; begins = refl; sound = tt }
any_reached store (push f ∷ earlier) = push_reached (length store) (after store earlier) f (taken (length store) earlier) (any_reached store earlier) _ refl
any_reached store (clear ∷ earlier) =
    let h = any_reached store earlier in
    record { long = h.long; weaver = refl; rest = (after store earlier).store; begins = refl; sound = tt }
