-- The claims of specs/Claims.antt.
use mathlib.Core.Path.{◌≡◌, refl, ◌∙◌}
use mathlib.Core.Bool.{true}
use mathlib.Core.List.{List}
use Prim.Native.Nat.{ℕ, ◌+◌, ◌*◌, ◌/◌, ◌<◌}
use native.Mathlib.Omega.{arith}
use lib.IntN.{ℤ, pos}
use lib.ListN.{length, get_or}
use Rattle.laws.specs.Refusal.{rising}
use Rattle.laws.proofs.Claims.{lowest_says}
use Rattle.laws.proofs.Lists.{length_laid, laid_at}
use Rattle.float.specs.Bounds.{Unit}
use Rattle.float.proofs.Small.{small_more}
use Rattle.float.proofs.Range.{unit_small}
use Rattle.plane.specs.declared.Shape.{Shape}
use Rattle.plane.specs.Plane.{value_of}
use Rattle.filter.specs.declared.Quality.{Quality}
use Rattle.filter.specs.declared.Rows.{Rows}
use Rattle.filter.specs.Filter.{sample_of}
use Rattle.filter.proofs.Claims.{sample_in_unit}
use Rattle.colour.specs.declared.Conversion.{Conversion}
use Rattle.colour.specs.Colour.{good_conversion}
use Rattle.colour.specs.Claims.{InUnit}
use Rattle.colour.proofs.Claims.{converted_in_unit}
use Rattle.picture.specs.Picture.{Frame, picture_tests, colour_at, pixel_of, pixel_row, pixel_rows}
use Rattle.picture.specs.Claims.{PictureSays, PictureSize, Opaque, SamplesInUnit, PixelsInUnit}
use Rattle.picture.proofs.Judged.{good_colours}
use Rattle.picture.proofs.Painted.{length_pixels}

pub picture_says : PictureSays
unfolding rising
picture_says conversion previous current next room = lowest_says (picture_tests conversion previous current next room) tt

-- the samples of one plane of each frame
one_plane :
    (quality : Quality) (rows : Rows) (before cur after : List ℕ) (earlier own later : Shape) (x y : ℤ) →
    Unit (sample_of quality rows (value_of before earlier) (value_of cur own) (value_of after later) x y)
one_plane quality rows before cur after earlier own later =
    sample_in_unit (record { quality = quality; rows = rows; before = earlier; cur = own; after = later }) before cur after

pub samples_in_unit : SamplesInUnit
samples_in_unit quality rows before cur after x y = (
  one_plane quality rows before.luma cur.luma after.luma before.shapes.luma cur.shapes.luma after.shapes.luma x y,
  one_plane quality rows before.cb cur.cb after.cb before.shapes.cb cur.shapes.cb after.shapes.cb x y,
  one_plane quality rows before.cr cur.cr after.cr before.shapes.cr cur.shapes.cr after.shapes.cr x y,
)

module _ (conversion : Conversion) (quality : Quality) (rows : Rows) (before cur after : Frame) where
  length_row : (width y : ℕ) → length (pixel_row conversion quality rows before cur after width y) ≡ width * 4
  unfolding pixel_row
  length_row width y = length_pixels width _ (λ x. refl)

  size : length (pixel_rows conversion quality rows before cur after) ≡ cur.shapes.luma.height * (cur.shapes.luma.width * 4)
  unfolding pixel_rows
  size =
      length_laid (pixel_row conversion quality rows before cur after cur.shapes.luma.width) (cur.shapes.luma.width * 4)
      (length_row cur.shapes.luma.width) cur.shapes.luma.height

  -- alpha in a row, and in the rows
  alpha_in_row : (width x y : ℕ) → x < width → get_or (pixel_row conversion quality rows before cur after width y) (x * 4 + 3) 0 ≡ 255
  unfolding pixel_row
  alpha_in_row width x y l = laid_at (λ n. pixel_of (colour_at conversion quality rows before cur after n y)) 4 (λ n. refl) width 3 x 0 (omega arith) l

  alpha :
      (x y : ℕ) → x < cur.shapes.luma.width → y < cur.shapes.luma.height →
      get_or (pixel_rows conversion quality rows before cur after) (y * (cur.shapes.luma.width * 4) + (x * 4 + 3)) 0 ≡ 255
  unfolding pixel_rows
  alpha x y l m =
      laid_at (pixel_row conversion quality rows before cur after cur.shapes.luma.width) (cur.shapes.luma.width * 4)
      (length_row cur.shapes.luma.width) cur.shapes.luma.height (x * 4 + 3) y 0 (omega arith) m
      ∙ alpha_in_row cur.shapes.luma.width x y l

  -- a colour, of samples from 0 to 1
  in_unit : good_conversion conversion ≡ true → (x y : ℕ) → InUnit (colour_at conversion quality rows before cur after x y)
  unfolding colour_at
  in_unit good x y =
      let luma = samples_in_unit quality rows before cur after (pos x) (pos y) in
      let chroma = samples_in_unit quality rows before cur after (pos (x / 2)) (pos (y / 2)) in
      converted_in_unit conversion _ _ _ good (small_more 8 (unit_small luma.0) tt) (small_more 8 (unit_small chroma.1) tt)
      (small_more 8 (unit_small chroma.2) tt)

pub picture_size : PictureSize
picture_size quality output conversion previous current next = size _ _ _ _ _ _

pub opaque : Opaque
opaque quality output conversion previous current next = alpha _ _ _ _ _ _

pub pixels_in_unit : PixelsInUnit
pixels_in_unit quality output conversion previous current next room x y done =
    in_unit _ _ _ _ _ _ (good_colours conversion previous current next room done) x y
