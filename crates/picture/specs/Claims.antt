-- What the contract of `picture_of` comes to. proofs/Claims.antt proves each claim under its name in small letters.
use Rattle.std.specs.Prelude.{ℕ, ◌*◌, ◌+◌, ◌<◌, ◌≡◌, ℤ, length, get_or}
use Rattle.laws.specs.Refusal.{Says}
use Rattle.float.specs.Bounds.{Unit}
use Rattle.field.specs.declared.Output.{Output}
use Rattle.filter.specs.declared.Quality.{Quality}
use Rattle.filter.specs.declared.Rows.{Rows}
use Rattle.filter.specs.Filter.{sample_of}
use Rattle.colour.specs.declared.Conversion.{Conversion}
use Rattle.colour.specs.Claims.{InUnit}
use Rattle.filter.specs.Rows.{rows_of}
use Rattle.picture.specs.Picture.{Frame, picture_tests, picture_no, picture_whole, luma_in, cb_in, cr_in, quality_for, served, colour_at}

-- 0 exactly when no number of the table applies, and otherwise the lowest that does
abbrev pub PictureSays : Type 0
PictureSays = (conversion : Conversion) (previous current following : Frame) (room : ℕ) → Says (picture_tests conversion previous current following room)

-- A picture has four bytes for each pixel.
abbrev pub PictureSize : Type 0
PictureSize =
    (quality : Quality) (output : Output) (conversion : Conversion) (previous current following : Frame)
    → length (picture_whole quality output conversion previous current following) ≡ current.shapes.luma.height * (current.shapes.luma.width * 4)

-- Alpha is 255 everywhere.
abbrev pub Opaque : Type 0
Opaque =
    (quality : Quality) (output : Output) (conversion : Conversion) (previous current following : Frame) (x y : ℕ)
    → x < current.shapes.luma.width → y < current.shapes.luma.height
    → get_or (picture_whole quality output conversion previous current following) (y * (current.shapes.luma.width * 4) + (x * 4 + 3)) 0 ≡ 255

-- What the conversion of `to_rgb` is given for a pixel lies from 0 to 1, luma and chroma alike, whatever the bytes and the shapes.
abbrev pub SamplesInUnit : Type 0
SamplesInUnit =
    (quality : Quality) (rows : Rows) (before cur after : Frame) (x y : ℤ)
    → Unit (sample_of quality rows (luma_in before) (luma_in cur) (luma_in after) x y)
    × Unit (sample_of quality rows (cb_in before) (cb_in cur) (cb_in after) x y)
    × Unit (sample_of quality rows (cr_in before) (cr_in cur) (cr_in after) x y)

-- No pixel of a picture that is not refused comes from a NaN or from a value outside 0..1.
abbrev pub PixelsInUnit : Type 0
PixelsInUnit =
    (quality : Quality) (output : Output) (conversion : Conversion) (previous current following : Frame) (room x y : ℕ)
    → picture_no conversion previous current following room ≡ 0
    → InUnit
    (colour_at conversion (quality_for output.field quality) (rows_of output) (served output.before previous current following) current
    (served output.after previous current following) x y)
