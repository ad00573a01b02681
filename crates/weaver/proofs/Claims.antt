-- The claims of specs/Claims.antt.
use Prim.Native.Nat.{ℕ}
use mathlib.Core.Path.{◌≡◌, refl, sym, ap, ◌∙◌}
use mathlib.Core.Bool.{Bool, true, false, cond}
use mathlib.Core.List.{List, [], ◌∷◌, ◌++◌, nil≢cons}
use lib.ListN.{length}
use Rattle.laws.proofs.Bools.{halves}
use Rattle.laws.specs.Refusal.{rising, written}
use Rattle.laws.specs.Rows.{over}
use Rattle.laws.proofs.Claims.{lowest_says}
use Rattle.plane.specs.Plane.{grid_shape, half}
use Rattle.field.specs.declared.Parity.{Parity}
use Rattle.weave.specs.declared.Field.{Field}
use Rattle.weave.specs.Weave.{fields_agree}
use Rattle.weave.proofs.Fields.{alike_in}
use lib.IntN.{ℤ}
use Rattle.std.proofs.Common.{Option, Ok, Err}
use Rattle.refusal.proofs.Claims.{one_answered}
use Rattle.weaver.specs.declared.Weaver.{Weaver}
use Rattle.weaver.specs.declared.Paired.{Paired}
use Rattle.weaver.specs.declared.Paired.TheVariants as paired
use Rattle.weaver.specs.Weaver.{kept_of, kept_field, woven_by, opposite, fits, push_tests, times_of, picture_luma, picture_cb, picture_cr, push_out}
use Rattle.weaver.specs.History.{Sent, State, number_in, after, Waiting, none, waits, mates, mate_of, waiting_after, taken}
use Rattle.weaver.specs.Claims.{PushSays, OnePaired, RefusedLeaves, RefusalKnown, NoPicture, Picture, Gives, PairsWoven}
use Rattle.weaver.proofs.Packed.{Sound}
use Rattle.weaver.proofs.Judged.{sound}
use Rattle.weaver.proofs.Kept.{luma_woven, cb_woven, cr_woven}
use Rattle.weaver.proofs.Reached.{weaver_by, packed_by, Reached, fits_known, number_known, tests, any_reached}
use Rattle.weaver.proofs.Reached as reached

-- ---- one call
pub push_says : PushSays
unfolding rising
push_says w g parity store luma_room cb_room cr_room = lowest_says (push_tests w g parity store luma_room cb_room cr_room) tt

abbrev first_list : List (List (Option ℤ)) → List (Option ℤ)
first_list [] = []
first_list (times ∷ rest) = times

-- the answer that comes with such times
abbrev pair_by : List (Option ℤ) → Paired
pair_by [] = paired.Waits
pair_by (time ∷ rest) = paired.Picture time

by_times : (pair : Paired) → pair_by (times_of pair) ≡ pair
by_times paired.Waits = refl
by_times (paired.Picture at) = refl

pub one_paired : OnePaired
one_paired (Ok pair) (Ok other) number values =
    ap (λ (p : Paired). Ok p) (sym (by_times pair) ∙ ap (λ (l : List (List (Option ℤ))). pair_by (first_list l)) values ∙ by_times other)
one_paired (Ok pair) (Err r) number values = absurd (nil≢cons (sym values))
one_paired (Err r) (Ok pair) number values = absurd (nil≢cons values)
one_paired (Err r) (Err other) number values = one_answered _ (Err r) (Err other) number refl

pub refused_leaves : RefusedLeaves
refused_leaves = reached.refused_leaves

-- ---- over calls
pub refusal_known : RefusalKnown
refusal_known store f earlier =
    number_known (length store) (after store earlier) (waiting_after (taken (length store) earlier)) (any_reached store earlier) f

-- what an output holds without a picture, and with one
module _ (n : ℕ) (w : Weaver) (shape : Field) (parity : Parity) (plane out : List ℕ) (z : n ≡ 0) where
  stays : fits w shape parity ≡ false → push_out n w shape parity plane out ≡ out
  stays e = λ i. written (z i) (cond (e i) (over plane out) out) out

  woven : fits w shape parity ≡ true → push_out n w shape parity plane out ≡ over plane out
  woven e = λ i. written (z i) (cond (e i) (over plane out) out) out

-- a field without a mate
no_picture : (state : State) (f : Sent) → fits state.weaver f.field.shape f.parity ≡ false → number_in state f ≡ 0 → NoPicture state f
no_picture state f e z =
    let w = state.weaver in
    let g = f.field in
    record {
      times = λ i. cond (e i) ((kept_of w).time ∷ []) [];
      luma = λ out. stays (number_in state f) w g.shape f.parity (picture_luma w state.store g) out z e;
      cb = λ out. stays (number_in state f) w g.shape f.parity (picture_cb w state.store g) out z e;
      cr = λ out. stays (number_in state f) w g.shape f.parity (picture_cr w state.store g) out z e;
    }

-- a field with a mate
module _ (room : ℕ) (state : State) (first f : Sent) (h : Reached room state (waits first)) (m : mates first f ≡ true) (z : number_in state f ≡ 0) where
  fit : fits state.weaver f.field.shape f.parity ≡ true
  fit = fits_known room state (waits first) h f ∙ m

  second_sound : Sound f.field
  second_sound =
      let t = tests room state (waits first) h f z in
      sound f.field t.good t.halved t.long

  same_height : f.field.shape.luma.height ≡ first.field.shape.luma.height
  same_height =
      let both = halves (opposite first.parity f.parity) (fields_agree first.field.shape f.field.shape) m in
      sym (alike_in (grid_shape first.field.shape.luma) (grid_shape f.field.shape.luma) both.1).heights

  cb_height : f.field.shape.cb.height ≡ first.field.shape.cb.height
  cb_height = second_sound.cb_half.down ∙ ap half same_height ∙ sym h.sound.cb_half.down

  cr_height : f.field.shape.cr.height ≡ first.field.shape.cr.height
  cr_height = second_sound.cr_half.down ∙ ap half same_height ∙ sym h.sound.cr_half.down

  -- what the store keeps
  kept_is : kept_field (kept_of state.weaver) state.store ≡ kept_field (kept_of (weaver_by (waits first))) (packed_by (waits first) ++ h.rest)
  kept_is = λ i. kept_field (kept_of (h.weaver i)) (h.begins i)

  -- an output is woven from what the store keeps, and that weaves as the first field itself
  picture : Picture state first f
  picture =
      let n = number_in state f in
      let w = state.weaver in
      let g = f.field in
      record {
        times = λ i. cond (fit i) ((kept_of (h.weaver i)).time ∷ []) [];
        luma = λ out.
            woven n w g.shape f.parity (picture_luma w state.store g) out z fit
            ∙ (λ i. over (woven_by (kept_of (h.weaver i)).parity (kept_is i).luma (kept_is i).shape.luma g.luma g.shape.luma) out)
            ∙ ap (λ (plane : List ℕ). over plane out) (luma_woven first.field h.sound h.rest first.parity g.luma g.shape.luma same_height);
        cb = λ out.
            woven n w g.shape f.parity (picture_cb w state.store g) out z fit
            ∙ (λ i. over (woven_by (kept_of (h.weaver i)).parity (kept_is i).cb (kept_is i).shape.cb g.cb g.shape.cb) out)
            ∙ ap (λ (plane : List ℕ). over plane out) (cb_woven first.field h.sound h.rest first.parity g.cb g.shape.cb cb_height);
        cr = λ out.
            woven n w g.shape f.parity (picture_cr w state.store g) out z fit
            ∙ (λ i. over (woven_by (kept_of (h.weaver i)).parity (kept_is i).cr (kept_is i).shape.cr g.cr g.shape.cr) out)
            ∙ ap (λ (plane : List ℕ). over plane out) (cr_woven first.field h.sound h.rest first.parity g.cr g.shape.cr cr_height);
      }

gives_if :
    (room : ℕ) (state : State) (first f : Sent) → Reached room state (waits first) → number_in state f ≡ 0 → (t : Bool) → mates first f ≡ t
    → Gives (cond t (waits first) none) state f
gives_if room state first f h z true e = picture room state first f h e z
gives_if room state first f h z false e = no_picture state f (fits_known room state (waits first) h f ∙ e) z

gives : (room : ℕ) (state : State) (w : Waiting) (f : Sent) → Reached room state w → number_in state f ≡ 0 → Gives (mate_of w f) state f
gives room state none f h z = no_picture state f (fits_known room state none h f) z
gives room state (waits first) f h z = gives_if room state first f h z (mates first f) refl

pub pairs_woven : PairsWoven
pairs_woven store f earlier z =
    gives (length store) (after store earlier) (waiting_after (taken (length store) earlier)) f (any_reached store earlier) z
