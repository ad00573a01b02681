-- What is painted of the frames that an output asks for is the picture.
use Prim.Native.Nat.{ℕ, ◌*◌, ◌≤◌}
use mathlib.Core.Path.{◌≡◌, refl, sym, ap, subst, ◌∙◌}
use mathlib.Core.Bool.{true≢false}
use mathlib.Core.List.{List}
use native.Mathlib.Omega.{arith}
use borrow.Author.Tests.{ne_eqb}
use Rattle.std.proofs.Common.{Result, Ok, Err, IsErr}
use Rattle.laws.specs.Refusal.{written}
use Rattle.laws.specs.Rows.{over}
use Rattle.refusal.specs.declared.Refusal.{Refusal}
use Rattle.refusal.specs.Refusal.{number_of, no_of}
use Rattle.refusal.proofs.Claims.{numbers_tell}
use Rattle.field.specs.declared.Source.{Source}
use Rattle.field.specs.declared.Source.TheVariants as source
use Rattle.filter.specs.Rows.{rows_of}
use Rattle.filter.proofs.Claims.{output_rows_good}
use Rattle.picture.specs.declared.Asked.{Asked}
use Rattle.picture.specs.declared.Lent.{Lent}
use Rattle.picture.specs.declared.Recipe.{Recipe}
use Rattle.picture.specs.declared.Trio.{Trio}
use Rattle.picture.specs.Picture.{Frame, Frames, served, quality_for, pixel_rows, picture_whole, asked_no}
use Rattle.picture.specs.Inner.{recipe_for, Serving, lumas_in, cbs_in, crs_in, frames_in, Paintable, rows_in}
use Rattle.picture.proofs.Judged.{picked, picked_served, judged, has_room, paintable_for, lumas, cbs, crs}
use Rattle.picture.proofs.Painted.{rows_served}

-- a refused call leaves what stood there
pub refused_stays : {A : Type 0} (r : Result (Unit {0}) Refusal) (x y : A) → IsErr r → y ≡ written (no_of r) x y
refused_stays (Ok v) x y h = absurd (true≢false (sym h))
refused_stays (Err refused) x y h =
    let above = numbers_tell.0 refused in
    simp (ne_eqb (number_of refused) 0 (omega (arith, above)))

-- a plane of the frame that serves
served_part : (plane : Lent → List ℕ) (s : Source) (p c n : Lent) → plane (served s p c n) ≡ served s (plane p) (plane c) (plane n)
served_part plane source.Previous p c n = refl
served_part plane source.Current p c n = refl
served_part plane source.Next p c n = refl

module _ (asked : Asked) (p c n : Lent) {r : Recipe} {x y : Lent} (made : r ≡ recipe_for asked) (before : x ≡ served asked.output.before p c n) (after : y ≡ served asked.output.after p c n) where
  abbrev trio : Trio
  trio = record { before = x; cur = c; after = y }

  abbrev f : Frames
  f = frames_in asked p c n

  abbrev b : Frame
  b = picked asked.output.before f.previous f.current f.next

  abbrev a : Frame
  a = picked asked.output.after f.previous f.current f.next

  serves : (plane : Lent → List ℕ) → ◌≡◌ {A = Serving} (record { before = plane x; cur = plane c; after = plane y }) (record { before = served asked.output.before (plane p) (plane c) (plane n); cur = plane c; after = served asked.output.after (plane p) (plane c) (plane n) })
  serves plane i = record {
    before = (ap plane before ∙ served_part plane asked.output.before p c n) i;
    cur = plane c;
    after = (ap plane after ∙ served_part plane asked.output.after p c n) i;
  }

  luma_served : lumas_in trio ≡ lumas b f.current a
  luma_served = serves (λ (l : Lent). l.luma.now)

  cb_served : cbs_in trio ≡ cbs b f.current a
  cb_served = serves (λ (l : Lent). l.cb.now)

  cr_served : crs_in trio ≡ crs b f.current a
  cr_served = serves (λ (l : Lent). l.cr.now)

  module _ (room : ℕ) (done : 0 ≡ asked_no asked f room) where
    pub picture_paintable : Paintable r (lumas_in trio) (cbs_in trio) (crs_in trio)
    picture_paintable =
        paintable_for made luma_served cb_served cr_served
        (judged asked.conversion f.previous f.current f.next room (sym done) (quality_for asked.output.field asked.quality) (rows_of asked.output)
        (output_rows_good asked.output) asked.output.before asked.output.after)

    pub picture_fits : r.luma.cur.height * (r.luma.cur.width * 4) ≤ room
    picture_fits =
        subst (λ (r : Recipe). r.luma.cur.height * (r.luma.cur.width * 4) ≤ room) (sym made)
        (has_room asked.conversion f.previous f.current f.next room (sym done))

  pub picture_painted :
      (old : List ℕ) →
      over (rows_in r (lumas_in trio) (cbs_in trio) (crs_in trio)) old
      ≡ over (picture_whole asked.quality asked.output asked.conversion f.previous f.current f.next) old
  picture_painted old =
      let quality = quality_for asked.output.field asked.quality in
      let rows = rows_of asked.output in
      (λ i. over (rows_in (made i) (luma_served i) (cb_served i) (cr_served i)) old)
      ∙ ap (λ (picture : List ℕ). over picture old)
      (rows_served asked.conversion quality rows b f.current a
      ∙ (λ i.
      pixel_rows asked.conversion quality rows (picked_served asked.output.before f.previous f.current f.next i) f.current
      (picked_served asked.output.after f.previous f.current f.next i)))
