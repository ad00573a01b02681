-- A frame read back at the door: what the two calls of `readback` come to, of the host's own numbers, places and outputs.
use Prim.Native.Nat.{ℕ}
use mathlib.Core.Path.{◌≡◌, refl, sym, ap, subst, ◌∙◌}
use mathlib.Core.Bool.{Bool, true, false, cond}
use lib.Dec.{eqb}
use lib.ListN.{length}
use Rattle.laws.specs.Refusal.{lowest}
use Rattle.laws.specs.Rows.{listed, laid, over}
use Rattle.laws.proofs.Refusal.{stays}
use Rattle.laws.proofs.Rows.{over_all}
use Rattle.plane.specs.declared.Layout.TheVariants.{Luma, Second}
use Rattle.plane.specs.Plane.{good_shape, half}
use Rattle.readback.specs.declared.Readback.{Readback}
use Rattle.readback.specs.declared.Sizes.{Sizes}
use Rattle.readback.specs.Claims.{Shorter}
use Rattle.readback.specs.Readback.{luma_shape, cb_shape, cr_shape, cr_bytes_of, sizes_of, copied_row, copied_of}
use Rattle.readback.proofs.Claims as readback
use Rattle.weavedesk.specs.Woven.{readback_named}
use Rattle.weavedesk.specs.Readback.{Frame, Outputs, lengths, ask_no, places_after, copy_no, outputs_after, chroma_meant, planes_meant, at_front}
use Rattle.weavedesk.specs.Claims.{InTurn, AskThenCopy, OneFrame}

module _ (f : Frame) (places : Sizes) (outs : Outputs) where
  abbrev meant : Readback
  meant = readback_named f.about

  -- the places after a call that gets 0
  told : ask_no f ≡ 0 → places_after (ask_no f) f places ≡ sizes_of meant
  told done = ap (λ (n : ℕ). places_after n f places) done

  -- the planes of the contract are those that the host means
  cr_by : (two : Bool) → copied_of (cond two f.second f.third) (record {
    width = half f.about.width;
    height = half f.about.height;
    depth = f.about.depth;
    stride = cond two f.about.second_pitch f.about.third_pitch;
    layout = cond two Second Luma;
  })
      ≡ cond two (copied_of f.second (chroma_meant f.about f.about.second_pitch Second))
      (copied_of f.third (chroma_meant f.about f.about.third_pitch Luma))
  cr_by true = refl
  cr_by false = refl

  cr_meant : copied_of (cr_bytes_of meant f.second f.third) (cr_shape meant) ≡ (planes_meant f).cr
  cr_meant = cr_by (eqb f.about.planes 2)

  long : sizes_of meant ≡ lengths (planes_meant f)
  long =
      let luma = readback.copied_size f.luma (luma_shape meant) in
      let cb = readback.copied_size f.second (cb_shape meant) in
      let cr = sym (ap length cr_meant) ∙ readback.copied_size (cr_bytes_of meant f.second f.third) (cr_shape meant) in
      (λ i. record { luma = sym luma i; cb = sym cb i; cr = sym cr i })

  -- what the outputs hold after a call that gets 0
  front : copy_no f outs ≡ 0 → outputs_after (copy_no f outs) f outs ≡ at_front (planes_meant f) outs
  front done =
      ap (λ (n : ℕ). outputs_after n f outs) done
      ∙ (λ i. record {
        luma = over (planes_meant f).luma outs.luma;
        cb = over (planes_meant f).cb outs.cb;
        cr = over (cr_meant i) outs.cr;
      })

  -- outputs that are just as long as the planes hold nothing else
  nothing_else : lengths outs ≡ lengths (planes_meant f) → at_front (planes_meant f) outs ≡ planes_meant f
  nothing_else just =
      let luma = over_all (planes_meant f).luma outs.luma (ap (λ (sizes : Sizes). sizes.luma) just) in
      let cb = over_all (planes_meant f).cb outs.cb (ap (λ (sizes : Sizes). sizes.cb) just) in
      let cr = over_all (planes_meant f).cr outs.cr (ap (λ (sizes : Sizes). sizes.cr) just) in
      (λ i. record { luma = luma i; cb = cb i; cr = cr i })

  full :
      ask_no f ≡ 0 → lengths outs ≡ places_after (ask_no f) f places → (copy_no f outs ≡ 0) × (outputs_after (copy_no f outs) f outs ≡ planes_meant f)
  full done just =
      let e = (readback.just_fills meant f.luma f.second f.third outs.luma outs.cb outs.cr done (just ∙ told done)).done in
      (e, front e ∙ nothing_else (just ∙ told done ∙ long))

  unwritten : (ask_no f ≡ 0 → ⊥) → places_after (ask_no f) f places ≡ places
  unwritten refused =
      let luma = stays (sizes_of meant).luma places.luma refused in
      let cb = stays (sizes_of meant).cb places.cb refused in
      let cr = stays (sizes_of meant).cr places.cr refused in
      (λ i. record { luma = sym luma i; cb = sym cb i; cr = sym cr i })

  kept : (copy_no f outs ≡ 0 → ⊥) → outputs_after (copy_no f outs) f outs ≡ outs
  kept refused =
      let luma = stays (over (copied_of f.luma (luma_shape meant)) outs.luma) outs.luma refused in
      let cb = stays (over (copied_of f.second (cb_shape meant)) outs.cb) outs.cb refused in
      let cr = stays (over (copied_of (cr_bytes_of meant f.second f.third) (cr_shape meant)) outs.cr) outs.cr refused in
      (λ i. record { luma = sym luma i; cb = sym cb i; cr = sym cr i })

  in_turn : InTurn f places outs
  in_turn =
      let follows =
      readback.copy_follows meant (length f.luma) (length f.second) (length f.third) (length outs.luma) (length outs.cb) (length outs.cr) in
      let room : ask_no f ≡ 0 → (Shorter (places_after (ask_no f) f places) (lengths outs) → ⊥) → copy_no f outs ≡ 0 =
      λ done enough. follows.alike (λ e. enough (subst (λ (told : Sizes). Shorter told (lengths outs)) (sym (told done)) (follows.seven.0 e).1)) ∙ done in
      record {
        seven = (
          λ e. let h = follows.seven.0 e in (h.0, subst (λ (told : Sizes). Shorter told (lengths outs)) (sym (told h.0)) h.1),
          λ h. follows.seven.1 (h.0, subst (λ (told : Sizes). Shorter told (lengths outs)) (told h.0) h.1),
        );
        alike = follows.alike;
        up_to_six = follows.up_to_six;
        packed = told;
        as_long = λ done. told done ∙ long;
        front = λ done enough. (room done enough, front (room done enough));
        filled = full;
        places_stay = unwritten;
        outputs_stay = kept;
      }

pub ask_then_copy : AskThenCopy
ask_then_copy = in_turn

pub one_frame_lem : OneFrame
unfolding lowest good_shape copied_of copied_row laid listed
one_frame_lem = (refl, λ places. refl, refl, refl, refl, refl, refl, refl, refl, refl)
