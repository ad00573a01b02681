-- What a call of `picture_of` that gets 0 has shown: any two of its three frames may serve beside the current one, and every part of theirs that
-- lies within and has room gets 0 too.
use mathlib.Core.Path.{◌≡◌, refl, sym, ap, ap₂, subst, ◌∙◌}
use mathlib.Core.Bool.{Bool, true, false, cond, ◌&&◌}
use Rattle.std.proofs.Common.{Result, Ok, Err, MatchResult}
use Prim.Native.Nat.{ℕ, ◌+◌, ◌*◌, ◌≤◌}
use borrow.Author.Tests.{leb-true, eqb-true, eq-eqb, le-leb}
use lib.Dec.{leb, eqb}
use lib.ListN.{length}
use Rattle.laws.proofs.Bools.{halves}
use Rattle.laws.specs.Refusal.{lowest, written, rising}
use Rattle.laws.proofs.Refusal.{AllPass, all_pass}
use Rattle.refusal.specs.declared.Refusal.{Refusal}
use Rattle.refusal.specs.Refusal.{number_of, no_of}
use Rattle.field.specs.declared.Source.{Source}
use Rattle.field.specs.declared.Source.TheVariants as source
use Rattle.plane.specs.declared.Shape.{Shape}
use Rattle.plane.specs.Plane.{good_shape, plane_bytes, agree, half, chroma_agrees}
use Rattle.plane.proofs.Bounds.{good_within}
use Rattle.filter.specs.declared.Quality.{Quality}
use Rattle.filter.specs.declared.Rows.{Rows}
use Rattle.filter.specs.declared.Making.{Making}
use Rattle.filter.specs.Rows.{good_rows}
use Rattle.colour.specs.declared.Conversion.{Conversion}
use Rattle.colour.specs.Colour.{good_conversion}
use Rattle.fill.specs.declared.Place.{Place}
use Rattle.fill.specs.Fill.{part_no}
use Rattle.picture.specs.declared.Recipe.{Recipe}
use Rattle.picture.specs.Picture.{Frame, frame_of, good_shapes, chroma_fits, lent, served, picture_tests, picture_no}
use Rattle.picture.specs.Inner.{recipe_of, Serving, Makeable, Paintable, Inside}

-- ---- a part of planes that were judged
pub part_done :
    {m : Making} {t : Serving} (place : Place) (room : ℕ) → Makeable m t → Inside place m.cur → place.height * place.width ≤ room →
    part_no m place (length t.before) (length t.cur) (length t.after) room ≡ 0
unfolding lowest
part_done {m} {t} place room j inside fits =
    simp
    (j.asked, le-leb (place.top + place.height) m.cur.height inside.rows, le-leb (place.left + place.width) m.cur.width inside.columns, j.good, j.alike, j.whole, le-leb (place.height * place.width) room fits)

-- what is written at 0
pub done_written : {A : Type 0} {n : ℕ} {x y : A} (old : A) → n ≡ 0 → x ≡ written n y old → x ≡ y
done_written {A} {n} {x} {y} old z e = e ∙ ap (λ (k : ℕ). written k y old) z

-- the last of several tests, by its number
pub last_test :
    (passes : Bool) (refusal : Refusal) (r : Result (Unit {0}) Refusal) →
    MatchResult r (λ _. passes ≡ true) (λ refused. (passes ≡ false) × (refused ≡ refusal)) → no_of r ≡ cond passes 0 (number_of refusal)
last_test passes refusal (Ok v) e = rw e
last_test passes refusal (Err refused) e = rw e.0 (ap number_of e.1)

-- ---- shapes that agree
pub record Alike (a b : Shape) : Type 0 where
  pub width : a.width ≡ b.width
  pub height : a.height ≡ b.height
  pub depth : a.depth ≡ b.depth

module _ (a b : Shape) where
  alike : agree a b ≡ true → Alike a b
  alike h =
      let depths = halves (eqb a.width b.width && eqb a.height b.height) (eqb a.depth b.depth) h in
      let sizes = halves (eqb a.width b.width) (eqb a.height b.height) depths.0 in
      record {
        width = eqb-true a.width b.width sizes.0;
        height = eqb-true a.height b.height sizes.1;
        depth = eqb-true a.depth b.depth depths.1;
      }

  agrees : Alike a b → agree a b ≡ true
  agrees s = simp (eq-eqb a.width b.width s.width, eq-eqb a.height b.height s.height, eq-eqb a.depth b.depth s.depth)

turned : {a b : Shape} → Alike a b → Alike b a
turned s = record { width = sym s.width; height = sym s.height; depth = sym s.depth }

-- a chroma plane is as its luma's halved shape
abbrev halved : Shape → Shape
halved s = record { width = half s.width; height = half s.height; depth = s.depth; stride = s.stride; layout = s.layout }

chroma_alike : (luma chroma : Shape) → chroma_agrees luma chroma ≡ true → Alike chroma (halved luma)
chroma_alike luma chroma h = alike chroma (halved luma) h

-- so that chroma planes are alike where their lumas are
both_alike : {luma chroma luma' chroma' : Shape} → Alike luma luma' → Alike chroma (halved luma) → Alike chroma' (halved luma') → Alike chroma chroma'
both_alike l c c' = record {
  width = c.width ∙ (ap half l.width ∙ sym c'.width);
  height = c.height ∙ (ap half l.height ∙ sym c'.height);
  depth = c.depth ∙ (l.depth ∙ sym c'.depth);
}

-- ---- a plane, and a frame, that may serve beside the current one
record Fits (s : Shape) (bytes : ℕ) (cur : Shape) : Type 0 where
  good : good_shape s ≡ true
  same : agree cur s ≡ true
  whole : leb (plane_bytes s) bytes ≡ true

record Serves (f cur : Frame) : Type 0 where
  luma : Fits f.shapes.luma (length f.luma) cur.shapes.luma
  cb : Fits f.shapes.cb (length f.cb) cur.shapes.cb
  cr : Fits f.shapes.cr (length f.cr) cur.shapes.cr

serves :
    (f cur : Frame) → good_shapes f.shapes ≡ true → agree f.shapes.luma cur.shapes.luma ≡ true → chroma_fits f.shapes ≡ true →
    chroma_fits cur.shapes ≡ true → lent f ≡ true → Serves f cur
serves f cur good same chroma cur-chroma whole =
    let goods = halves _ (good_shape f.shapes.cr) good in
    let two-goods = halves (good_shape f.shapes.luma) (good_shape f.shapes.cb) goods.0 in
    let wholes = halves _ (leb (plane_bytes f.shapes.cr) (length f.cr)) whole in
    let two-wholes =
    halves (leb (plane_bytes f.shapes.luma) (length f.luma)) (leb (plane_bytes f.shapes.cb) (length f.cb)) wholes.0 in
    let lumas = alike f.shapes.luma cur.shapes.luma same in
    let chromas = halves (chroma_agrees f.shapes.luma f.shapes.cb) (chroma_agrees f.shapes.luma f.shapes.cr) chroma in
    let cur-chromas = halves (chroma_agrees cur.shapes.luma cur.shapes.cb) (chroma_agrees cur.shapes.luma cur.shapes.cr) cur-chroma in
    let cbs = both_alike lumas (chroma_alike f.shapes.luma f.shapes.cb chromas.0) (chroma_alike cur.shapes.luma cur.shapes.cb cur-chromas.0) in
    let crs = both_alike lumas (chroma_alike f.shapes.luma f.shapes.cr chromas.1) (chroma_alike cur.shapes.luma cur.shapes.cr cur-chromas.1) in
    record {
      luma = record { good = two-goods.0; same = agrees cur.shapes.luma f.shapes.luma (turned lumas); whole = two-wholes.0 };
      cb = record { good = two-goods.1; same = agrees cur.shapes.cb f.shapes.cb (turned cbs); whole = two-wholes.1 };
      cr = record { good = goods.1; same = agrees cur.shapes.cr f.shapes.cr (turned crs); whole = wholes.1 };
    }

-- whichever the output asks for, picked part by part
abbrev pub picked : Source → Frame → Frame → Frame → Frame
picked s previous current next =
    frame_of (served s previous.shapes current.shapes next.shapes) (served s previous.luma current.luma next.luma)
    (served s previous.cb current.cb next.cb) (served s previous.cr current.cr next.cr)

pub picked_served : (s : Source) (previous current next : Frame) → picked s previous current next ≡ served s previous current next
picked_served source.Previous previous current next = refl
picked_served source.Current previous current next = refl
picked_served source.Next previous current next = refl

any_serves : (s : Source) (previous current next : Frame) → Serves previous current → Serves current current → Serves next current → Serves (picked s previous current next) current
any_serves source.Previous previous current next p c n = p
any_serves source.Current previous current next p c n = c
any_serves source.Next previous current next p c n = n

both : {a b : Bool} → a ≡ true → b ≡ true → (a && b) ≡ true
both {a} {b} p q = ap₂ (λ (x y : Bool). x && y) p q

makeable :
    {m : Making} {t : Serving} → good_rows m.rows ≡ true → Fits m.before (length t.before) m.cur → Fits m.cur (length t.cur) m.cur →
    Fits m.after (length t.after) m.cur → Makeable m t
makeable g b c a = record {
  asked = g;
  good = both (both b.good c.good) a.good;
  alike = both b.same a.same;
  whole = both (both b.whole c.whole) a.whole;
}

-- ---- the whole call
abbrev pub lumas : Frame → Frame → Frame → Serving
lumas before cur after = record { before = before.luma; cur = cur.luma; after = after.luma }

abbrev pub cbs : Frame → Frame → Frame → Serving
cbs before cur after = record { before = before.cb; cur = cur.cb; after = after.cb }

abbrev pub crs : Frame → Frame → Frame → Serving
crs before cur after = record { before = before.cr; cur = cur.cr; after = after.cr }

module _ (conversion : Conversion) (quality : Quality) (rows : Rows) (asked : good_rows rows ≡ true) (before cur after : Frame) where
  paintable :
      Serves before cur → Serves cur cur → Serves after cur → chroma_fits cur.shapes ≡ true →
      Paintable (recipe_of conversion quality rows before.shapes cur.shapes after.shapes) (lumas before cur after) (cbs before cur after)
      (crs before cur after)
  paintable b c a chroma =
      let bounds = good_within cur.shapes.luma c.luma.good in
      let chromas = halves (chroma_agrees cur.shapes.luma cur.shapes.cb) (chroma_agrees cur.shapes.luma cur.shapes.cr) chroma in
      let cb-halved = chroma_alike cur.shapes.luma cur.shapes.cb chromas.0 in
      let cr-halved = chroma_alike cur.shapes.luma cur.shapes.cr chromas.1 in
      record {
        lumas = makeable asked b.luma c.luma a.luma;
        cbs = makeable asked b.cb c.cb a.cb;
        crs = makeable asked b.cr c.cr a.cr;
        width_high = bounds.width_most;
        height_high = bounds.height_most;
        cb_width = cb-halved.width;
        cb_height = cb-halved.height;
        cr_width = cr-halved.width;
        cr_height = cr-halved.height;
      }

module _ (conversion : Conversion) (previous current next : Frame) (room : ℕ) (done : picture_no conversion previous current next room ≡ 0) where
  passed : AllPass (picture_tests conversion previous current next room)
  unfolding rising
  passed = all_pass (picture_tests conversion previous current next room) tt done

  pub judged :
      (quality : Quality) (rows : Rows) → good_rows rows ≡ true → (before after : Source) →
      let b = picked before previous current next in
      let a = picked after previous current next in
      Paintable (recipe_of conversion quality rows b.shapes current.shapes a.shapes) (lumas b current a) (cbs b current a) (crs b current a)
  judged quality rows asked before after =
      let goods = halves (good_shapes previous.shapes && good_shapes current.shapes) (good_shapes next.shapes) passed.0 in
      let two-goods = halves (good_shapes previous.shapes) (good_shapes current.shapes) goods.0 in
      let fits = halves _ (chroma_fits next.shapes) passed.1.0 in
      let two_fits = halves _ (chroma_fits current.shapes) fits.0 in
      let one-fits = halves _ (chroma_fits previous.shapes) two_fits.0 in
      let same = halves (agree previous.shapes.luma current.shapes.luma) (agree next.shapes.luma current.shapes.luma) one-fits.0 in
      let lents = halves (lent previous && lent current) (lent next) passed.1.1.0 in
      let two-lents = halves (lent previous) (lent current) lents.0 in
      let self = agrees current.shapes.luma current.shapes.luma (record { width = refl; height = refl; depth = refl }) in
      let p = serves previous current two-goods.0 same.0 one-fits.1 two_fits.1 two-lents.0 in
      let c = serves current current two-goods.1 self two_fits.1 two_fits.1 two-lents.1 in
      let n = serves next current goods.1 same.1 fits.1 two_fits.1 lents.1 in
      paintable conversion quality rows asked (picked before previous current next) current (picked after previous current next)
      (any_serves before previous current next p c n) c (any_serves after previous current next p c n) two_fits.1

  pub has_room : current.shapes.luma.height * (current.shapes.luma.width * 4) ≤ room
  has_room = leb-true _ room passed.1.1.1.0

  pub good_colours : good_conversion conversion ≡ true
  good_colours = passed.1.1.1.1.0

-- whatever those are
pub paintable_for :
    {r r' : Recipe} {l l' b b' c c' : Serving} → r' ≡ r → l' ≡ l → b' ≡ b → c' ≡ c → Paintable r l b c → Paintable r' l' b' c'
paintable_for {r} {r'} {l} {l'} {b} {b'} {c} {c'} er el eb ec p =
    subst (λ (x : Recipe). Paintable x l' b' c') (sym er)
    (subst (λ (x : Serving). Paintable r x b' c') (sym el) (subst (λ (x : Serving). Paintable r l x c') (sym eb) (subst (Paintable r l b) (sym ec) p)))
