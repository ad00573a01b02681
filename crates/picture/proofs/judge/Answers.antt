use Prim.Native.Nat.{◌*◌}
use mathlib.Core.Path.{◌≡◌, sym, ap, ◌∙◌}
use mathlib.Core.Bool.{Bool, true, cond, ◌&&◌}
use lib.Dec.{leb}
use Rattle.laws.specs.Refusal.{lowest}
use Rattle.plane.specs.Plane.{agree}
use Rattle.colour.specs.Colour.{good_conversion}
use Rattle.refusal.specs.Refusal.{no_of}
use Rattle.picture.specs.Picture.{good_shapes, chroma_fits, lent}
use Rattle.picture.specs.Inner.{frames_in}
use Rattle.picture.proofs.Judged.{last_test}
use Rattle.picture.proofs.judge.Goals as goal

pub returns : goal.returns
unfolding lowest
returns c =
    let a = c.args in
    let asked = a.asked in
    let f = frames_in asked a.previous a.current a.next in
    let shapes : (good_shapes asked.previous && good_shapes asked.current && good_shapes asked.next) ≡ true =
    sym (λ i. c.good_shapes.ensures i && c.good_shapes-2.ensures i && c.good_shapes-3.ensures i) ∙ c.in_ok-unless.ensures in
    let same : (agree asked.previous.luma asked.current.luma && agree asked.next.luma asked.current.luma && chroma_fits asked.previous && chroma_fits asked.current && chroma_fits asked.next) ≡ true =
    sym (λ i. c.agrees.ensures i && c.agrees-2.ensures i && c.chroma_fits.ensures i && c.chroma_fits-2.ensures i && c.chroma_fits-3.ensures i)
    ∙ c.in_ok-unless-2.ensures in
    let whole : (lent f.previous && lent f.current && lent f.next) ≡ true =
    sym (λ i. c.holds.ensures i && c.holds-2.ensures i && c.holds-3.ensures i) ∙ c.in_ok-unless-3.ensures in
    let room : leb (asked.current.luma.height * (asked.current.luma.width * 4)) a.room ≡ true =
    sym (λ i. leb (c.bytes_of.ensures i) a.room) ∙ c.in_ok-unless-4.ensures in
    let last : no_of c.unless-5.result ≡ cond (good_conversion asked.conversion) 0 8 =
    last_test _ _ _ c.unless-5.ensures ∙ ap (λ (b : Bool). cond b 0 8) c.good_conversion.ensures in
    simp (shapes, same, whole, room) last
