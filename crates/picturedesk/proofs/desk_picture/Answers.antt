use Prim.Native.Nat.{ℕ}
use mathlib.Core.Path.{◌≡◌, sym, ap, ◌∙◌}
use mathlib.Core.Bool.{Bool, false, cond}
use mathlib.Core.List.{List, ◌∷◌}
use lib.ListN.{length}
use Rattle.laws.specs.Refusal.{lowest}
use Rattle.laws.specs.Rows.{over}
use Rattle.laws.proofs.Refusal.{number_behind, written_alike}
use Rattle.picture.specs.declared.Asked.{Asked}
use Rattle.picture.specs.Picture.{Frames, frames_of, picture_tests, picture_whole, asked_out}
use Rattle.picturedesk.specs.Pictures.{asked_named, all_named}
use Rattle.picturedesk.proofs.Cut.{picture_number_lem, picture_same}
use Rattle.picturedesk.proofs.desk_picture.Goals as goal

-- a code that names nothing is refused with 3, whatever stands behind
refused : (named : Bool) (tests : List (ℕ × Bool)) → named ≡ false → 3 ≡ lowest ((3, named) ∷ tests)
unfolding lowest
refused named tests e = ap (λ (b : Bool). cond b (lowest tests) 3) (sym e)

pub returns-then-not-all_named-clause-value : goal.returns-then-not-all_named-clause-value
returns-then-not-all_named-clause-value c = c.number.ensures ∙ refused _ _ (sym c.all_named.ensures ∙ c.if-not-all_named.true)

pub returns : goal.returns
returns c =
    let a = c.args in
    let frames : Asked → Frames = λ asked. frames_of asked a.previous_luma.now a.previous_cb.now a.previous_cr.now a.current_luma.now a.current_cb.now
    a.current_cr.now a.next_luma.now a.next_cb.now a.next_cr.now in
    let named = sym c.all_named.ensures ∙ c.if-not-all_named.false in
    let asked = c.asked_named-asked.ensures in
    let given = asked_named a.quality a.output a.conversion a.previous a.current a.next in
    let f = frames given in
    let all = all_named a.quality a.output a.previous a.current a.next in
    let number =
    c.told.ensures
    ∙ c.picture_of.ensures.value
    ∙ number_behind 3 named
    (λ i.
    let g = frames (asked i) in
    picture_tests (asked i).conversion g.previous g.current g.next (length a.out.now))
    ∙ picture_number_lem all a.conversion f.previous f.current f.next (length a.out.now)
    in record {
      value = number;
      out_after = c.picture_of.ensures.out_after
          ∙ (λ i. asked_out (sym c.told.ensures i) (asked i) (frames (asked i)) a.out.now)
          ∙ written_alike c.told.result a.out.now
          (λ z.
          let same = picture_same all a.conversion f.previous f.current f.next (length a.out.now) (sym number ∙ z) in
          λ i. over (picture_whole given.quality given.output a.conversion (same.0 i) (same.1 i) (same.2 i)) a.out.now);
    }
