-- What a field that gets 0 has shown, and that it can then be woven with a packed field of its size.
use Prim.Native.Nat.{ℕ, ◌+◌, ◌-◌, ◌≤◌}
use mathlib.Core.Path.{◌≡◌, refl, sym, ap, subst, ◌∙◌}
use mathlib.Core.Bool.{Bool, true, false, cond, ◌&&◌}
use mathlib.Core.List.{List, [], ◌∷◌}
use native.Mathlib.Omega.{arith}
use lib.Dec.{leb, eqb}
use Rattle.std.proofs.Common.{Option, None, Some, is_some}
use lib.ListN.{length, take, drop}
use borrow.Author.Tests.{leb-true, le-leb, eqb-true, eq-eqb}
use Rattle.laws.proofs.Bools.{halves}
use Rattle.laws.proofs.Lists.{part_length}
use Rattle.laws.specs.Refusal.{lowest, rising}
use Rattle.laws.proofs.Refusal.{all_pass}
use Rattle.plane.specs.Plane.{grid_shape, plane_bytes, half, chroma_agrees}
use Rattle.field.specs.declared.Parity.{Parity}
use Rattle.plane.specs.declared.Grid.{Grid}
use Rattle.weave.specs.declared.Field.{Field}
use Rattle.weave.specs.Weave.{Given, given_of, good_lines, good_field, chroma_fits, fields_agree, whole, room_for, woven_bytes}
use Rattle.weave.proofs.Fields.{bounded}
use Rattle.weave.proofs.Judged.{each_of_three, Half, half_of}
use Rattle.weaver.specs.declared.Size.{Size}
use Rattle.weaver.specs.declared.Waiting.{Waiting}
use Rattle.weaver.specs.declared.Weaver.{Weaver}
use Rattle.weaver.specs.Weaver.{packed_lines, packed_shape, luma_bytes_of, chroma_bytes, field_bytes, held, field_of, kept_of, kept_field, kept_bytes, opposite, fits}
use Rattle.weaver.specs.Inner.{tests_of, PackableField, Weavable}
use Rattle.weaver.proofs.Packed.{packed_good, packed_whole, Sound}

-- what a size comes to
abbrev pub luma_size : Size → ℕ
luma_size s = luma_bytes_of s.width s.height s.depth

abbrev pub chroma_size : Size → ℕ
chroma_size s = chroma_bytes s.width s.height s.depth

abbrev pub shape_of : Size → Field
shape_of s = packed_shape s.width s.height s.depth

pub sound : (g : Given) → good_field g.shape ≡ true → chroma_fits g.shape ≡ true → whole g ≡ true → Sound g
sound g good halved long =
    let s = g.shape in
    let goods = each_of_three (good_lines s.luma) (good_lines s.cb) (good_lines s.cr) good in
    let halves = halves (chroma_agrees (grid_shape s.luma) (grid_shape s.cb)) (chroma_agrees (grid_shape s.luma) (grid_shape s.cr)) halved in
    let longs =
    each_of_three (leb (plane_bytes (grid_shape s.luma)) (length g.luma)) (leb (plane_bytes (grid_shape s.cb)) (length g.cb))
    (leb (plane_bytes (grid_shape s.cr)) (length g.cr)) long in
    record {
      luma_good = goods.0;
      cb_good = goods.1;
      cr_good = goods.2;
      luma_long = leb-true _ _ longs.0;
      cb_long = leb-true _ _ longs.1;
      cr_long = leb-true _ _ longs.2;
      cb_half = half_of (grid_shape s.luma) (grid_shape s.cb) halves.0;
      cr_half = half_of (grid_shape s.luma) (grid_shape s.cr) halves.1;
    }

-- ---- the tests of a field that gets 0
pub record Passed (w : Weaver) (g : Given) (picture : Bool) (store luma_room cb_room cr_room : ℕ) : Type 0 where
  pub good : good_field g.shape ≡ true
  pub halved : chroma_fits g.shape ≡ true
  pub long : whole g ≡ true
  pub held : kept_bytes w ≤ store
  pub roomy :
      cond picture (room_for g.shape luma_room cb_room cr_room)
      (leb (field_bytes g.shape.luma.width g.shape.luma.height g.shape.luma.depth) store)
      ≡ true

module _ (w : Weaver) (g : Given) (picture : Bool) (store luma_room cb_room cr_room : ℕ) where
  abbrev pub tests : List (ℕ × Bool)
  tests = tests_of w picture g.shape (length g.luma) (length g.cb) (length g.cr) store luma_room cb_room cr_room

  pub passed : lowest tests ≡ 0 → Passed w g picture store luma_room cb_room cr_room
  unfolding rising
  passed done =
      let each = all_pass tests tt done in
      let bytes = halves (whole g) (leb (kept_bytes w) store) each.1.1.0 in
      record { good = each.0; halved = each.1.0; long = bytes.0; held = leb-true (kept_bytes w) store bytes.1; roomy = each.1.1.1.0 }

-- ---- a field that waits is packed
pub packable :
    (w : Weaver) (g : Given) (store luma_room cb_room cr_room : ℕ) → Passed w g false store luma_room cb_room cr_room → PackableField store g
packable w g store luma_room cb_room cr_room p =
    record { good = p.good; half_sized = p.halved; long = p.long; room = leb-true _ _ p.roomy }

-- ---- a picture

-- with a packed field of the same width, height and depth
module _ (g : Given) (s : Sound g) where
  abbrev packed : Field
  packed = packed_shape g.shape.luma.width g.shape.luma.height g.shape.luma.depth

  half_good : (chroma : Grid) → good_lines chroma ≡ true → Half (grid_shape g.shape.luma) (grid_shape chroma)
      → good_lines (packed_lines (half g.shape.luma.width) (half g.shape.luma.height) g.shape.luma.depth) ≡ true
  half_good chroma good h = rw (h.across, h.down, h.deep) at (packed_good chroma good)

  half_room : (chroma : Grid) (room : ℕ) → Half (grid_shape g.shape.luma) (grid_shape chroma) → leb (woven_bytes chroma) room ≡ true
      → leb (woven_bytes (packed_lines (half g.shape.luma.width) (half g.shape.luma.height) g.shape.luma.depth)) room ≡ true
  half_room chroma room h e = rw (h.across, h.down, h.deep) at e

  field_good : good_field packed ≡ true
  field_good =
      λ i. packed_good g.shape.luma s.luma_good i && half_good g.shape.cb s.cb_good s.cb_half i && half_good g.shape.cr s.cr_good s.cr_half i

  same : (n : ℕ) → eqb n n ≡ true
  same n = eq-eqb n n refl

  field_halved : chroma_fits packed ≡ true
  field_halved = λ i.
      (same (half g.shape.luma.width) i && same (half g.shape.luma.height) i && same g.shape.luma.depth i)
      && (same (half g.shape.luma.width) i && same (half g.shape.luma.height) i && same g.shape.luma.depth i)

  field_agrees : fields_agree packed g.shape ≡ true
  field_agrees = λ i. same g.shape.luma.width i && same g.shape.luma.height i && same g.shape.luma.depth i

  field_room : (luma cb cr : ℕ) → room_for g.shape luma cb cr ≡ true → room_for packed luma cb cr ≡ true
  field_room luma cb cr e =
      let rooms = each_of_three (leb (woven_bytes g.shape.luma) luma) (leb (woven_bytes g.shape.cb) cb) (leb (woven_bytes g.shape.cr) cr) e in
      λ i. rooms.0 i && half_room g.shape.cb cb s.cb_half rooms.1 i && half_room g.shape.cr cr s.cr_half rooms.2 i

  module _ (luma cb cr : List ℕ) where
    abbrev kept : Given
    kept = given_of packed luma cb cr

    plane_whole : (width height depth : ℕ) (bytes : List ℕ) → 1 ≤ height → length bytes ≡ luma_bytes_of width height depth
        → leb (plane_bytes (grid_shape (packed_lines width height depth))) (length bytes) ≡ true
    plane_whole width height depth bytes h e =
        le-leb (plane_bytes (grid_shape (packed_lines width height depth))) (length bytes) (rw e (packed_whole width height depth h))

    field_whole :
        length luma ≡ luma_bytes_of g.shape.luma.width g.shape.luma.height g.shape.luma.depth
        → length cb ≡ chroma_bytes g.shape.luma.width g.shape.luma.height g.shape.luma.depth
        → length cr ≡ chroma_bytes g.shape.luma.width g.shape.luma.height g.shape.luma.depth
        → whole kept ≡ true
    field_whole e f h =
        let l = g.shape.luma in
        let some = (bounded l s.luma_good).height_least in
        let some-half : 1 ≤ half l.height = omega (arith, some) in
        λ i.
        plane_whole l.width l.height l.depth luma some e i
        && plane_whole (half l.width) (half l.height) l.depth cb some-half f i
        && plane_whole (half l.width) (half l.height) l.depth cr some-half h i

    weaves :
        (luma_room cb_room cr_room : ℕ)
        → good_field g.shape ≡ true → chroma_fits g.shape ≡ true → whole g ≡ true → room_for g.shape luma_room cb_room cr_room ≡ true
        → whole kept ≡ true → Weavable kept g luma_room cb_room cr_room
    unfolding lowest
    weaves luma_room cb_room cr_room good halved long roomy e = record {
      as_top = λ i.
          lowest
          ((4, field_good i && good i)
          ∷ (5, field_agrees i && field_halved i && halved i)
          ∷ (6, e i && long i)
          ∷ (7, field_room luma_room cb_room cr_room roomy i)
          ∷ []);
      as_bottom = λ i.
          lowest ((4, good i && field_good i) ∷ (5, field_agrees i && halved i && field_halved i) ∷ (6, long i && e i) ∷ (7, roomy i) ∷ []);
    }

-- a field that fits has the kept one's width, height and depth
pub record Fitting (w : Weaver) (shape : Field) : Type 0 where
  pub holds : held w ≡ true
  pub widths : (kept_of w).width ≡ shape.luma.width
  pub heights : (kept_of w).height ≡ shape.luma.height
  pub depths : (kept_of w).depth ≡ shape.luma.depth

pub fitting : (w : Weaver) (shape : Field) (parity : Parity) → fits w shape parity ≡ true → Fitting w shape
fitting w shape parity h =
    let o = opposite (kept_of w).parity parity in
    let a = eqb (kept_of w).width shape.luma.width in
    let b = eqb (kept_of w).height shape.luma.height in
    let d = eqb (kept_of w).depth shape.luma.depth in
    let outer = halves (held w) (o && a && b && d) h in
    let last = halves (o && a && b) d outer.1 in
    let next = halves (o && a) b last.0 in
    let first = halves o a next.0 in
    record {
      holds = outer.0;
      widths = eqb-true (kept_of w).width shape.luma.width first.1;
      heights = eqb-true (kept_of w).height shape.luma.height next.1;
      depths = eqb-true (kept_of w).depth shape.luma.depth last.1;
    }

-- so it can be woven with the field that the store keeps
module _
    (w : Weaver) (g : Given) (parity : Parity) (store : List ℕ) (luma_room cb_room cr_room : ℕ)
    (fit : fits w g.shape parity ≡ true) (p : Passed w g true (length store) luma_room cb_room cr_room) where
  pub store_holds : field_bytes (kept_of w).width (kept_of w).height (kept_of w).depth ≤ length store
  store_holds = rw (fitting w g.shape parity fit).holds at p.held

  pub weavable : Weavable (kept_field (kept_of w) store) g luma_room cb_room cr_room
  weavable =
      let f = fitting w g.shape parity fit in
      let l = g.shape.luma in
      let s = sound g p.good p.halved p.long in
      let a = luma_bytes_of l.width l.height l.depth in
      let b = chroma_bytes l.width l.height l.depth in
      let enough : field_bytes l.width l.height l.depth ≤ length store = rw (f.widths, f.heights, f.depths) at store_holds in
      let luma = take a store in
      let cb = take b (drop a store) in
      let cr = take b (drop (a + b) store) in
      rw (f.widths, f.heights, f.depths)
      (weaves g s luma cb cr luma_room cb_room cr_room p.good p.halved p.long p.roomy
      (field_whole g s luma cb cr (part_length store 0 a (omega (arith, enough))) (part_length store a b (omega (arith, enough)))
      (part_length store (a + b) b (omega (arith, enough)))))

-- the same of the mate that was found, and of the test by which it was judged
module _
    (w : Weaver) (g : Given) (parity : Parity) (store : List ℕ) (luma_room cb_room cr_room : ℕ) {mate : Option Waiting}
    (is : mate ≡ cond (fits w g.shape parity) w.waiting None) (has : is_some mate ≡ fits w g.shape parity) where
  pub mate_passed : {kept : Waiting} {picture : Bool} → mate ≡ Some kept → picture ≡ is_some mate
      → lowest (tests w g picture (length store) luma_room cb_room cr_room) ≡ 0
      → Weavable (kept_field kept store) g luma_room cb_room cr_room × (field_bytes kept.width kept.height kept.depth ≤ length store)
  mate_passed {kept} {picture} found told done =
      let fit : fits w g.shape parity ≡ true = sym has ∙ ap is_some found in
      let same : kept_of w ≡ kept = ap field_of (sym (ap (λ (b : Bool). cond b w.waiting None) fit) ∙ sym is ∙ found) in
      let p = passed w g true (length store) luma_room cb_room cr_room
      (ap (λ (b : Bool). lowest (tests w g b (length store) luma_room cb_room cr_room)) (sym (told ∙ ap is_some found)) ∙ done) in
      subst (λ (k : Waiting). Weavable (kept_field k store) g luma_room cb_room cr_room × (field_bytes k.width k.height k.depth ≤ length store)) same
      (weavable w g parity store luma_room cb_room cr_room fit p, store_holds w g parity store luma_room cb_room cr_room fit p)

-- and of a field without one
pub unmated_passed :
    (w : Weaver) (g : Given) (store luma_room cb_room cr_room : ℕ) {mate : Option Waiting} {picture : Bool} → mate ≡ None → picture ≡ is_some mate
    → lowest (tests w g picture store luma_room cb_room cr_room) ≡ 0 → PackableField store g
unmated_passed w g store luma_room cb_room cr_room found told done =
    packable w g store luma_room cb_room cr_room
    (passed w g false store luma_room cb_room cr_room
    (ap (λ (b : Bool). lowest (tests w g b store luma_room cb_room cr_room)) (sym (told ∙ ap is_some found)) ∙ done))

-- ---- the kept field's planes as parts of the store
pub same_kept :
    (w : Waiting) (store : List ℕ) (first : Field) (a b : ℕ)
    → first ≡ packed_shape w.width w.height w.depth → a ≡ luma_bytes_of w.width w.height w.depth → b ≡ chroma_bytes w.width w.height w.depth
    → given_of first (take (a - 0) store) (take (a + b - a) (drop a store)) (take (a + b + b - (a + b)) (drop (a + b) store)) ≡ kept_field w store
same_kept w store first a b e f g =
    let cb : a + b - a ≡ chroma_bytes w.width w.height w.depth = omega (arith, g) in
    let cr : a + b + b - (a + b) ≡ chroma_bytes w.width w.height w.depth = omega (arith, g) in
    let luma : a - 0 ≡ luma_bytes_of w.width w.height w.depth = omega (arith, f) in
    λ i. given_of (e i) (take (luma i) store) (take (cb i) (drop (f i) store)) (take (cr i) (drop (f i + g i) store))

pub same_weavable :
    {one other g : Given} {luma_room cb_room cr_room : ℕ} → one ≡ other
    → Weavable other g luma_room cb_room cr_room → Weavable one g luma_room cb_room cr_room
same_weavable {one} {other} {g} {luma_room} {cb_room} {cr_room} e h = subst (λ (k : Given). Weavable k g luma_room cb_room cr_room) (sym e) h
