-- How a call ends that pushes a field: refused by the codes, the shapes or the state's length, refused by the weaver, or done.
use Prim.Native.Nat.{ℕ}
use mathlib.Core.Path.{◌≡◌, refl, sym, ap, subst, ◌∙◌}
use mathlib.Core.Bool.{Bool, true, false, cond, ◌&&◌}
use mathlib.Core.List.{List, [], ◌∷◌}
use lib.Dec.{leb}
use Rattle.std.proofs.Common.{Option}
use lib.ListN.{length}
use lib.IntN.{ℤ}
use Rattle.laws.specs.Refusal.{lowest, rising, when_done}
use Rattle.laws.proofs.Refusal.{AllPass, all_pass, done_equal, stays}
use Rattle.field.specs.declared.Parity.{Parity}
use Rattle.weave.specs.declared.Field.{Field}
use Rattle.weave.specs.Weave.{given_of, good_field, chroma_fits, whole, room_for}
use Rattle.weaver.specs.declared.Weaver.{Weaver}
use Rattle.weaver.specs.declared.Paired.{Paired}
use Rattle.std.proofs.Common.{Result, Ok}
use Rattle.refusal.specs.declared.Refusal.{Refusal}
use Rattle.refusal.specs.Refusal.{no_of}
use Rattle.weaver.specs.Weaver.{fits, field_bytes, kept_bytes, picture_times, picture_luma, picture_cb, picture_cr, push_weaver, push_store, push_out, times_of, paired_values}
use Rattle.weaver.specs.Weaver as weaver
use Rattle.weavedesk.specs.declared.FieldNumbers.{FieldNumbers}
use Rattle.weavedesk.specs.Woven.{field_named}
use Rattle.weavedesk.specs.Waiting.{keeping}
use Rattle.weavedesk.specs.Push.{Lent, Offer, given, parity_in, time_in, weaver_of, push_no, times_given, picture_number, timed_number, time_number}
use Rattle.weavedesk.specs.Push.{state_after, store_after, luma_after, cb_after, cr_after, picture_after, timed_after, time_after}
use Rattle.weavedesk.specs.Inner.{field_cut}
use Rattle.weavedesk.specs.Inner as inner
use Rattle.weavedesk.proofs.Narrowed.{judged, field_narrowed}

-- ---- a field is judged in two steps: the first gives 3, 4, 5, or 6 for the state, and the rest is the weaver's own number

abbrev pub first_tests : Bool → Bool → Bool → Bool → List (ℕ × Bool)
first_tests named good halved state = (3, named) ∷ (4, good) ∷ (5, halved) ∷ (6, state) ∷ []

abbrev pub first_step : Bool → Bool → Bool → Bool → ℕ
first_step named good halved state = lowest (first_tests named good halved state)

pub first_each : (named good halved state : Bool) → first_step named good halved state ≡ 0 → AllPass (first_tests named good halved state)
unfolding rising
first_each named good halved state h = all_pass (first_tests named good halved state) tt h

module _ (bytes store : Bool) (tests : List (ℕ × Bool)) where
  first_step_refuses :
      (named good halved state : Bool) → (first_step named good halved state ≡ 0 → ⊥) →
      first_step named good halved state ≡ lowest ((3, named) ∷ (4, good) ∷ (5, halved) ∷ (6, state && bytes && store) ∷ tests)
  unfolding lowest
  first_step_refuses false good halved state h = refl
  first_step_refuses true false halved state h = refl
  first_step_refuses true true false state h = refl
  first_step_refuses true true true false h = refl
  first_step_refuses true true true true h = absurd (h refl)

  -- where the codes name something and the state is long enough, the number is the weaver's own
  pub behind_first :
      (named good halved state : Bool) → named ≡ true → state ≡ true →
      lowest ((3, named) ∷ (4, good) ∷ (5, halved) ∷ (6, state && bytes && store) ∷ tests) ≡ lowest ((4, good) ∷ (5, halved) ∷ (6, bytes && store) ∷ tests)
  unfolding lowest
  behind_first named good halved state e f = rw (e, f)

-- ---- the times that an answer of number 0 holds
times_same :
    (answer : Result Paired Refusal) (pair : Paired) (times : List (Option ℤ)) →
    answer ≡ Ok pair → paired_values answer ≡ when_done (no_of answer) times → times_of pair ≡ times
times_same answer pair times e h =
    done_equal times refl (sym (ap paired_values e) ∙ h ∙ ap (λ (a : Result Paired Refusal). when_done (no_of a) times) e)

-- ---- the first step judges numbers that were narrowed, which changes nothing
first_same :
    (n : FieldNumbers) (named state : Bool)
    → first_step named (good_field (field_cut n)) (chroma_fits (field_cut n)) state ≡ first_step named (good_field (field_named n)) (chroma_fits (field_named n)) state
unfolding lowest
first_same n named state =
    ap (λ (m : ℕ). cond named m 3) (judged (field_narrowed n) 4 (λ (f : Field). (5, chroma_fits f) ∷ (6, state) ∷ []))

pub first_is :
    (n : FieldNumbers) (named : Bool) (state : ℕ) {given : Field} → given ≡ field_cut n →
    lowest (inner.first_tests named given state) ≡ first_step named (good_field (field_named n)) (chroma_fits (field_named n)) (leb 56 state)
first_is n named state e = ap (λ (f : Field). lowest (inner.first_tests named f state)) e ∙ first_same n named (leb 56 state)

-- and a field that passes it was not cut
pub field_same :
    (n : FieldNumbers) (named state : Bool) → first_step named (good_field (field_named n)) (chroma_fits (field_named n)) state ≡ 0
    → field_cut n ≡ field_named n
field_same n named state h = (field_narrowed n).from_given (first_each named (good_field (field_named n)) (chroma_fits (field_named n)) state h).1.0

-- ---- the places that a call is lent, beside the state and the store
pub record Places : Type 0 where
  pub out_luma : List ℕ
  pub out_cb : List ℕ
  pub out_cr : List ℕ
  pub picture : ℕ
  pub earlier_timed : ℕ
  pub earlier_time : ℤ

module _ (o : Offer) (l : Lent) (old : Places) where
  -- what the weaver says of a push, of a weaver, a shape, a parity and a time that are known by other names
  abbrev pub Said : Weaver → Field → Parity → Option ℤ → Result Paired Refusal → Weaver → List ℕ → List ℕ → List ℕ → List ℕ → Type 0
  Said w f p t answer after store luma cb cr =
      (no_of answer ≡ weaver.push_no w (given_of f o.luma o.cb o.cr) p (length l.store) o.luma_room o.cb_room o.cr_room)
      × ((paired_values answer ≡ when_done (no_of answer) (picture_times w f p))
      × ((after ≡ push_weaver (no_of answer) w f p t)
      × ((store ≡ push_store (no_of answer) w (given_of f o.luma o.cb o.cr) p l.store)
      × ((luma ≡ push_out (no_of answer) w f p (picture_luma w l.store (given_of f o.luma o.cb o.cr)) old.out_luma)
      × ((cb ≡ push_out (no_of answer) w f p (picture_cb w l.store (given_of f o.luma o.cb o.cr)) old.out_cb)
      × (cr ≡ push_out (no_of answer) w f p (picture_cr w l.store (given_of f o.luma o.cb o.cr)) old.out_cr))))))

  abbrev the_field : Field
  the_field = field_named o.shape

  -- what the call promises of its number r and of the places
  abbrev Ends : ℕ → List ℕ → List ℕ → Places → Type 0
  Ends r state store new =
      (r ≡ push_no l o)
      × ((state ≡ state_after r l o)
      × ((store ≡ store_after r l o)
      × ((new.out_luma ≡ luma_after r l o old.out_luma)
      × ((new.out_cb ≡ cb_after r l o old.out_cb)
      × ((new.out_cr ≡ cr_after r l o old.out_cr)
      × ((new.picture ≡ picture_after r l o old.picture)
      × ((new.earlier_timed ≡ timed_after r l o old.earlier_timed)
      × (new.earlier_time ≡ time_after r l o old.earlier_time))))))))

  abbrev pub first_of : ℕ
  first_of = first_step (leb o.parity 1 && leb o.timed 1) (good_field the_field) (chroma_fits the_field) (leb 56 (length l.state))

  -- the tests behind
  abbrev behind : List (ℕ × Bool)
  behind = (
    7,
    cond (fits (weaver_of l) the_field (parity_in o)) (room_for the_field o.luma_room o.cb_room o.cr_room)
        (leb (field_bytes the_field.luma.width the_field.luma.height the_field.luma.depth) (length l.store)),
  )
      ∷ []

  pub refused_first_lem : {r : ℕ} → r ≡ first_of → (r ≡ 0 → ⊥) → Ends r l.state l.store old
  refused_first_lem {r} e z = (
    e
        ∙ first_step_refuses (whole (given o)) (leb (kept_bytes (weaver_of l)) (length l.store)) behind (leb o.parity 1 && leb o.timed 1)
        (good_field the_field) (chroma_fits the_field) (leb 56 (length l.state)) (λ zero. z (e ∙ zero)),
    (stays _ _ z, (stays _ _ z, (stays _ _ z, (stays _ _ z, (stays _ _ z, (stays _ _ z, (stays _ _ z, stays _ _ z))))))),
  )

  -- by the names that the contract uses
  pub renamed :
      {w : Weaver} {f : Field} {p : Parity} {t : Option ℤ} (answer : Result Paired Refusal) (after : Weaver) (store luma cb cr : List ℕ) →
      w ≡ weaver_of l → f ≡ the_field → p ≡ parity_in o → t ≡ time_in o →
      Said w f p t answer after store luma cb cr → Said (weaver_of l) the_field (parity_in o) (time_in o) answer after store luma cb cr
  renamed {w} {f} {p} {t} answer after store luma cb cr we fe pe te s =
      subst (λ (x : Weaver). Said x the_field (parity_in o) (time_in o) answer after store luma cb cr) we
      (subst (λ (x : Field). Said w x (parity_in o) (time_in o) answer after store luma cb cr) fe
      (subst (λ (x : Parity). Said w f x (time_in o) answer after store luma cb cr) pe
      (subst (λ (x : Option ℤ). Said w f p x answer after store luma cb cr) te s)))

  module _ (passed : first_of ≡ 0) (answer : Result Paired Refusal) (after : Weaver) (store luma cb cr : List ℕ)
      (s : Said (weaver_of l) the_field (parity_in o) (time_in o) answer after store luma cb cr) {no : ℕ} (said : no ≡ no_of answer) where
    pub number : no ≡ push_no l o
    number =
        let each = first_each (leb o.parity 1 && leb o.timed 1) (good_field the_field) (chroma_fits the_field) (leb 56 (length l.state)) passed in
        said
        ∙ s.0
        ∙ sym (behind_first (whole (given o)) (leb (kept_bytes (weaver_of l)) (length l.store)) behind (leb o.parity 1 && leb o.timed 1)
        (good_field the_field) (chroma_fits the_field) (leb 56 (length l.state)) each.0 each.1.1.1.0)

    -- the store and the outputs, whichever the number
    module _ {r : ℕ} (e : no_of answer ≡ r) where
      the-store : store ≡ store_after r l o
      the-store = s.1.1.1.0 ∙ ap (λ (n : ℕ). store_after n l o) e

      the-luma : luma ≡ luma_after r l o old.out_luma
      the-luma = s.1.1.1.1.0 ∙ ap (λ (n : ℕ). luma_after n l o old.out_luma) e

      the-cb : cb ≡ cb_after r l o old.out_cb
      the-cb = s.1.1.1.1.1.0 ∙ ap (λ (n : ℕ). cb_after n l o old.out_cb) e

      the-cr : cr ≡ cr_after r l o old.out_cr
      the-cr = s.1.1.1.1.1.1 ∙ ap (λ (n : ℕ). cr_after n l o old.out_cr) e

    pub taken :
        no ≡ 0 → (pair : Paired) → answer ≡ Ok pair → (state : List ℕ) (picture timed : ℕ) (time : ℤ) (earlier : Option ℤ) →
        state ≡ keeping after l.state →
        (timed_number (earlier ∷ []) ≡ timed_number (times_of pair)) × (time_number (earlier ∷ []) ≡ time_number (times_of pair)) →
        picture ≡ picture_number (times_of pair) → timed ≡ timed_number (earlier ∷ []) → time ≡ time_number (earlier ∷ []) →
        Ends 0 state store
        record { out_luma = luma; out_cb = cb; out_cr = cr; picture = picture; earlier_timed = timed; earlier_time = time }
    taken z pair got state picture timed time earlier kept-state known at-picture at-timed at-time =
        let zero : no_of answer ≡ 0 = sym said ∙ z in
        let times = times_same answer pair (times_given l o) got s.1.0 in (
          sym z ∙ number,
          (
            kept-state
                ∙ ap (λ (w : Weaver). keeping w l.state)
                (s.1.1.0 ∙ ap (λ (n : ℕ). push_weaver n (weaver_of l) the_field (parity_in o) (time_in o)) zero),
            (
              the-store zero,
              (
                the-luma zero,
                (
                  the-cb zero,
                  (
                    the-cr zero,
                    (at-picture ∙ ap picture_number times, (at-timed ∙ known.0 ∙ ap timed_number times, at-time ∙ known.1 ∙ ap time_number times)),
                  ),
                ),
              ),
            ),
          ),
        )
