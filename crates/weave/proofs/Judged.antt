-- What a call that gets 0 has shown, of each plane that it weaves, and how a call ends.
use Prim.Native.Nat.{ℕ, ◌*◌, ◌≤◌, ◌<◌}
use mathlib.Core.Path.{◌≡◌, sym, ap, ◌∙◌}
use mathlib.Core.Bool.{Bool, true, ◌&&◌}
use mathlib.Core.List.{List}
use lib.Dec.{eqb}
use lib.ListN.{length}
use borrow.Author.Tests.{leb-true, ltb-true, eqb-true, eq-eqb}
use Rattle.laws.proofs.Bools.{halves}
use Rattle.laws.specs.Refusal.{lowest, rising}
use Rattle.laws.proofs.Refusal.{all_pass}
use Rattle.plane.specs.declared.Shape.{Shape}
use Rattle.plane.specs.Plane.{grid_shape, agree, half, chroma_agrees}
use Rattle.plane.specs.declared.Grid.{Grid}
use Rattle.weave.specs.Weave.{Given, good_lines, good_field, chroma_fits, whole, room_for, woven_bytes, tests_of, line_tests, line_no}
use Rattle.weave.specs.Claims.{Matched}
use Rattle.weave.proofs.Fields.{Alike, alike_in}

-- each of three tests that hold together
pub each_of_three : (a b c : Bool) → (a && b && c) ≡ true → (a ≡ true) × (b ≡ true) × (c ≡ true)
each_of_three a b c h =
    let last = halves (a && b) c h in
    let first = halves a b last.0 in
    (first.0, first.1, last.1)

-- ---- chroma planes agree where their luma planes do

alike_back : (a b : Shape) → Alike a b → agree a b ≡ true
alike_back a b h =
    rw (eq-eqb a.width b.width h.widths, eq-eqb a.height b.height h.heights, eq-eqb a.depth b.depth h.depths)

pub record Half (luma chroma : Shape) : Type 0 where
  pub across : chroma.width ≡ half luma.width
  pub down : chroma.height ≡ half luma.height
  pub deep : chroma.depth ≡ luma.depth

pub half_of : (luma chroma : Shape) → chroma_agrees luma chroma ≡ true → Half luma chroma
half_of luma chroma h =
    let t =
    each_of_three (eqb chroma.width (half luma.width)) (eqb chroma.height (half luma.height)) (eqb chroma.depth luma.depth) h in
    record {
      across = eqb-true chroma.width (half luma.width) t.0;
      down = eqb-true chroma.height (half luma.height) t.1;
      deep = eqb-true chroma.depth luma.depth t.2;
    }

chroma_alike :
    (luma chroma luma' chroma' : Shape) →
    agree luma luma' ≡ true → chroma_agrees luma chroma ≡ true → chroma_agrees luma' chroma' ≡ true → agree chroma chroma' ≡ true
chroma_alike luma chroma luma' chroma' same one other =
    let l = alike_in luma luma' same in
    let a = half_of luma chroma one in
    let b = half_of luma' chroma' other in
    alike_back chroma chroma'
    record {
      widths = a.across ∙ ap half l.widths ∙ sym b.across;
      heights = a.down ∙ ap half l.heights ∙ sym b.down;
      depths = a.deep ∙ l.depths ∙ sym b.deep;
    }

-- ---- the three planes of a call of `weave`

-- a plane that can be woven into the room it has
abbrev pub PlaneWeavable : List ℕ → Grid → List ℕ → Grid → ℕ → Type 0
PlaneWeavable top t bottom b room = Matched top t bottom b × (woven_bytes t ≤ room)

module _ (top bottom : Given) (luma_room cb_room cr_room : ℕ) where
  pub judged :
      {long roomy : Bool} → long ≡ (whole top && whole bottom) → roomy ≡ room_for top.shape luma_room cb_room cr_room →
      lowest (tests_of top.shape bottom.shape long roomy) ≡ 0 →
      PlaneWeavable top.luma top.shape.luma bottom.luma bottom.shape.luma luma_room
      × PlaneWeavable top.cb top.shape.cb bottom.cb bottom.shape.cb cb_room
      × PlaneWeavable top.cr top.shape.cr bottom.cr bottom.shape.cr cr_room
  unfolding rising
  judged {long} {roomy} is-long is-roomy done =
      let t = top.shape in
      let b = bottom.shape in
      let tests = all_pass (tests_of t b long roomy) tt done in
      let shapes = halves (good_field t) (good_field b) tests.0 in
      let good = each_of_three (good_lines t.luma) (good_lines t.cb) (good_lines t.cr) shapes.0 in
      let good' = each_of_three (good_lines b.luma) (good_lines b.cb) (good_lines b.cr) shapes.1 in
      let sizes = each_of_three (agree (grid_shape t.luma) (grid_shape b.luma)) (chroma_fits t) (chroma_fits b) tests.1.0 in
      let fits = halves (chroma_agrees (grid_shape t.luma) (grid_shape t.cb)) (chroma_agrees (grid_shape t.luma) (grid_shape t.cr)) sizes.1 in
      let fits' = halves (chroma_agrees (grid_shape b.luma) (grid_shape b.cb)) (chroma_agrees (grid_shape b.luma) (grid_shape b.cr)) sizes.2 in
      let wholes = halves (whole top) (whole bottom) (sym is-long ∙ tests.1.1.0) in
      let long = each_of_three _ _ _ wholes.0 in
      let long' = each_of_three _ _ _ wholes.1 in
      let rooms = each_of_three _ _ _ (sym is-roomy ∙ tests.1.1.1.0) in (
        (
          record {
            top_good = good.0;
            bottom_good = good'.0;
            alike = sizes.0;
            top_whole = leb-true _ _ long.0;
            bottom_whole = leb-true _ _ long'.0;
          },
          leb-true _ _ rooms.0,
        ),
        (
          record {
            top_good = good.1;
            bottom_good = good'.1;
            alike = chroma_alike (grid_shape t.luma) (grid_shape t.cb) (grid_shape b.luma) (grid_shape b.cb) sizes.0 fits.0 fits'.0;
            top_whole = leb-true _ _ long.1;
            bottom_whole = leb-true _ _ long'.1;
          },
          leb-true _ _ rooms.1,
        ),
        (
          record {
            top_good = good.2;
            bottom_good = good'.2;
            alike = chroma_alike (grid_shape t.luma) (grid_shape t.cr) (grid_shape b.luma) (grid_shape b.cr) sizes.0 fits.1 fits'.1;
            top_whole = leb-true _ _ long.2;
            bottom_whole = leb-true _ _ long'.2;
          },
          leb-true _ _ rooms.2,
        ),
      )

-- ---- a single line

pub line_judged :
    (top : List ℕ) (t : Grid) (bottom : List ℕ) (b : Grid) (y : ℕ) →
    line_no t (length top) b (length bottom) y ≡ 0 → Matched top t bottom b × (y < t.height * 2)
unfolding rising
line_judged top t bottom b y done =
    let tests = all_pass (line_tests t (length top) b (length bottom) y) tt done in
    let shapes = halves (good_lines t) (good_lines b) tests.1.0 in
    let wholes = halves _ _ tests.1.1.1.0 in (
      record {
        top_good = shapes.0;
        bottom_good = shapes.1;
        alike = tests.1.1.0;
        top_whole = leb-true _ _ wholes.0;
        bottom_whole = leb-true _ _ wholes.1;
      },
      ltb-true y (t.height * 2) tests.0,
    )
