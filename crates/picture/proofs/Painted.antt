-- Pixels that are painted from tiles of samples are those of the picture.
use mathlib.Core.Path.{◌≡◌, refl, sym, ap, ◌∙◌}
use mathlib.Core.List.{List}
use Prim.Native.Nat.{ℕ, ◌+◌, ◌*◌, ◌/◌, ◌%◌, ◌≤◌, ◌<◌}
use native.Mathlib.Omega.{arith}
use lib.ListN.{length, get_or}
use lib.Ieee.{Float, nan}
use Rattle.laws.specs.Rows.{listed, laid, over}
use Rattle.laws.proofs.Lists.{length_listed, listed_at, same_laid, length_laid, laid_at, cut_row}
use Rattle.plane.specs.Plane.{half}
use Rattle.filter.specs.declared.Quality.{Quality}
use Rattle.filter.specs.declared.Rows.{Rows}
use Rattle.filter.specs.declared.Making.{Making}
use Rattle.fill.specs.declared.Place.{Place}
use Rattle.colour.specs.declared.Conversion.{Conversion}
use Rattle.colour.specs.Colour.{converted_of}
use Rattle.picture.specs.declared.Recipe.{Recipe}
use Rattle.picture.specs.Picture.{Frame, pixel_of, colour_at, pixel_row, pixel_rows}
use Rattle.picture.specs.Inner.{recipe_of, Serving, sample_at, chroma_of, part_in, row_in, rows_in, cut, painted_row, painted_at}
use Rattle.picture.proofs.Judged.{lumas, cbs, crs}

-- ---- lengths
pub length_pixels : (n : ℕ) (pixel : ℕ → List ℕ) → ((x : ℕ) → length (pixel x) ≡ 4) → length (laid n pixel) ≡ n * 4
length_pixels n pixel four = length_laid pixel 4 four n

pub length_painted : (conversion : Conversion) (width : ℕ) (luma cb cr : List Float) → length (painted_row conversion width luma cb cr) ≡ width * 4
unfolding painted_row
length_painted conversion width luma cb cr = length_pixels width _ (λ x. refl)

-- ---- row y of a part
cut_part :
    (m : Making) (t : Serving) (place : Place) (y : ℕ) (samples old : List Float) → y < place.height → samples ≡ over (part_in m t place) old →
    cut samples place.width y ≡ listed place.width (λ x. sample_at m t (place.left + x) (place.top + y))
cut_part m t place y samples old l e =
    ap (λ (s : List Float). cut s place.width y) e
    ∙ cut_row (λ (n : ℕ). listed place.width (λ x. sample_at m t (place.left + x) (place.top + n))) place.width (λ n. length_listed place.width _)
    place.height y _ l

-- and sample x of it
part_sample :
    (m : Making) (t : Serving) (place : Place) (x y : ℕ) (samples old : List Float) → x < place.width → y < place.height → samples ≡ over (part_in m t place) old →
    get_or (cut samples place.width y) x nan ≡ sample_at m t (place.left + x) (place.top + y)
part_sample m t place x y samples old in_row in_rows e =
    ap (λ (line : List Float). get_or line x nan) (cut_part m t place y samples old in_rows e)
    ∙ listed_at place.width (λ (n : ℕ). sample_at m t (place.left + n) (place.top + y)) x nan in_row

module _ (r : Recipe) (luma cb cr : Serving) where
  abbrev w : ℕ
  w = r.luma.cur.width

  abbrev pixel : ℕ → ℕ → List ℕ
  pixel x y = pixel_of (converted_of r.conversion (sample_at r.luma luma x y) (sample_at r.cb cb (x / 2) (y / 2)) (sample_at r.cr cr (x / 2) (y / 2)))

  pub length_row : (y : ℕ) → length (row_in r luma cb cr y) ≡ w * 4
  unfolding row_in
  length_row y = length_pixels w _ (λ x. refl)

  -- ---- a tile, from its samples
  module _
      (place : Place) (lumas cbs crs old-luma old-cb old-cr : List Float) (even_row : place.top % 2 ≡ 0) (even_column : place.left % 2 ≡ 0)
      (l : lumas ≡ over (part_in r.luma luma place) old-luma) (b : cbs ≡ over (part_in r.cb cb (chroma_of place)) old-cb)
      (c : crs ≡ over (part_in r.cr cr (chroma_of place)) old-cr) where
    tile_line :
        (y : ℕ) → y < place.height →
        painted_at r.conversion place.width lumas cbs crs y ≡ laid place.width (λ x. pixel (place.left + x) (place.top + y))
    unfolding painted_row
    tile_line y inside = same_laid place.width _ _ (λ x in_row. ap pixel_of (colour x in_row))
      where
        colour :
            (x : ℕ) → x < place.width →
            converted_of r.conversion (get_or (cut lumas place.width y) x nan) (get_or (cut cbs (half place.width) (y / 2)) (x / 2) nan)
            (get_or (cut crs (half place.width) (y / 2)) (x / 2) nan)
            ≡ converted_of r.conversion (sample_at r.luma luma (place.left + x) (place.top + y))
            (sample_at r.cb cb ((place.left + x) / 2) ((place.top + y) / 2)) (sample_at r.cr cr ((place.left + x) / 2) ((place.top + y) / 2))
        colour x in_row =
            let chroma-row : y / 2 < half place.height = omega (arith, inside) in
            let chroma-column : x / 2 < half place.width = omega (arith, in_row) in
            let row : place.top / 2 + y / 2 ≡ (place.top + y) / 2 = omega (arith, even_row) in
            let column : place.left / 2 + x / 2 ≡ (place.left + x) / 2 = omega (arith, even_column) in
            let at-luma = part_sample r.luma luma place x y lumas old-luma in_row inside l in
            let at-cb = part_sample r.cb cb (chroma_of place) (x / 2) (y / 2) cbs old-cb chroma-column chroma-row b ∙ (λ i. sample_at r.cb cb (column i) (row i)) in
            let at-cr = part_sample r.cr cr (chroma_of place) (x / 2) (y / 2) crs old-cr chroma-column chroma-row c ∙ (λ i. sample_at r.cr cr (column i) (row i)) in
            λ i. converted_of r.conversion (at-luma i) (at-cb i) (at-cr i)

    -- byte j of its row y is byte 4 * left + j of the picture's
    pub tile_places :
        place.left + place.width ≤ w → (y j : ℕ) → y < place.height → j < place.width * 4 →
        get_or (painted_at r.conversion place.width lumas cbs crs y) j 0 ≡ get_or (row_in r luma cb cr (place.top + y)) (place.left * 4 + j) 0
    unfolding row_in
    tile_places fits y j inside few =
        let x = j / 4 in
        let k = j % 4 in
        let small : k < 4 = omega arith in
        let column : x < place.width = omega (arith, few) in
        let further : place.left + x < w = omega (arith, column, fits) in
        let at : x * 4 + k ≡ j = omega arith in
        let behind : (place.left + x) * 4 + k ≡ place.left * 4 + j = omega arith in
        ap (λ (row : List ℕ). get_or row j 0) (tile_line y inside)
        ∙ ap (λ (n : ℕ). get_or (laid place.width (λ n. pixel (place.left + n) (place.top + y))) n 0) (sym at)
        ∙ laid_at (λ (n : ℕ). pixel (place.left + n) (place.top + y)) 4 (λ n. refl) place.width k x 0 small column
        ∙ sym (laid_at (λ (n : ℕ). pixel n (place.top + y)) 4 (λ n. refl) w k (place.left + x) 0 small further)
        ∙ ap (λ (n : ℕ). get_or (laid w (λ n. pixel n (place.top + y))) n 0) behind

-- ---- the rows of a recipe are those of the picture
pub rows_served :
    (conversion : Conversion) (quality : Quality) (rows : Rows) (before cur after : Frame) →
    rows_in (recipe_of conversion quality rows before.shapes cur.shapes after.shapes) (lumas before cur after) (cbs before cur after) (crs before cur after)
    ≡ pixel_rows conversion quality rows before cur after
unfolding row_in pixel_rows pixel_row colour_at
rows_served conversion quality rows before cur after = refl
