use Prim.Native.Nat.{ℕ, ◌*◌, ◌≤◌}
use mathlib.Core.Path.{◌≡◌, subst}
use mathlib.Core.List.{List}
use native.Mathlib.Nat.{mul-le-mul_right}
use native.Mathlib.Omega.{arith}
use lib.ListN.{replicate}
use lib.Ieee.{Float}
use Rattle.plane.specs.Plane.{half}
use Rattle.laws.specs.Rows.{over}
use Rattle.filter.specs.declared.Making.{Making}
use Rattle.fill.specs.declared.Place.{Place}
use Rattle.picture.specs.Inner.{Serving, lumas_in, cbs_in, crs_in, part_in, painted_at, painted_tile}
use Rattle.picture.proofs.Painted.{tile_places}
use Rattle.picture.proofs.Tiles.{tile_more}
use Rattle.picture.proofs.Job.paint_tile.Goals as goal

-- the samples of a tile, and those of its chroma
luma_area : (height width : ℕ) → height ≤ 8 → width ≤ 512 → height * width ≤ 4096
luma_area height width few narrow = omega (arith, mul-le-mul_right {m = height} {n = 8} width few, narrow)

chroma_area : (height width : ℕ) → height ≤ 8 → width ≤ 512 → half height * half width ≤ 1024
chroma_area height width few narrow =
    let rows : half height ≤ 4 = omega (arith, few) in
    omega (arith, mul-le-mul_right {m = half height} {n = 4} (half width) rows, narrow)

-- the samples of a place, by another name of it
moved :
    (m : Making) (t : Serving) {p q : Place} {samples : List Float} (old : List Float) → p ≡ q → samples ≡ over (part_in m t p) old →
    samples ≡ over (part_in m t q) old
moved m t {samples = samples} old e = subst (λ (place : Place). samples ≡ over (part_in m t place) old) e

pub samples-requires-clause-inside : goal.samples-requires-clause-inside
samples-requires-clause-inside c =
    let t = c.requires.tile in
    (t.inside, luma_area c.args.place.height c.args.place.width t.few_rows t.few_columns)

pub paint_rows-requires-clause-tile_made : goal.paint_rows-requires-clause-tile_made
paint_rows-requires-clause-tile_made c =
    let t = c.requires.tile in
    let p = c.args.place in
    let chroma = chroma_area p.height p.width t.few_rows t.few_columns in record {
      luma_made = omega (arith, luma_area p.height p.width t.few_rows t.few_columns, c.samples.auto.out);
      cb_made = omega (arith, chroma, c.samples-2.auto.out);
      cr_made = omega (arith, chroma, c.samples-3.auto.out);
    }

pub returns : goal.returns
returns c =
    let a = c.args in
    let t = c.requires.tile in
    let lumas : Serving = lumas_in a.self.trio in
    let cbs : Serving = cbs_in a.self.trio in
    let crs : Serving = crs_in a.self.trio in
    let chroma = c.chroma_of-chroma.ensures in
    let painted = subst (λ (w : ℕ). painted_tile a.place (w * 4) (painted_at a.self.recipe.conversion a.place.width c.samples.new.out c.samples-2.new.out c.samples-3.new.out) a.out.now c.paint_rows.new.out a.place.height) c.from-stride.ensures c.paint_rows.ensures in
    tile_more c.requires.painted_to painted
    (tile_places a.self.recipe lumas cbs crs a.place _ _ _ (replicate 4096 _) (replicate 1024 _) (replicate 1024 _) t.even_row t.even_column
    c.samples.ensures
    (moved a.self.recipe.cb cbs (replicate 1024 _) chroma c.samples-2.ensures)
    (moved a.self.recipe.cr crs (replicate 1024 _) chroma c.samples-3.ensures)
    t.inside.columns)
