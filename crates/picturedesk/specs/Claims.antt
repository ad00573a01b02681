-- What the exported function's contract comes to. proofs/Claims.antt proves each claim under its name in small letters.
use Rattle.std.specs.Prelude.{ℕ, ◌≡◌, ℤ}
use Rattle.laws.specs.Refusal.{lowest, Says}
use Rattle.float.specs.Bounds.{Unit}
use Rattle.filter.specs.Filter.{sample_of}
use Rattle.filter.specs.Rows.{quality_named, rows_of}
use Rattle.colour.specs.declared.Conversion.{Conversion}
use Rattle.colour.specs.Claims.{InUnit}
use Rattle.picture.specs.Picture.{Frames, luma_in, cb_in, cr_in, quality_for, served, colour_at}
use Rattle.picturedesk.specs.declared.FrameNumbers.{FrameNumbers}
use Rattle.picturedesk.specs.declared.OutputNumbers.{OutputNumbers}
use Rattle.picturedesk.specs.Pictures.{output_named, named_tests}

-- 0 exactly when no number applies, and otherwise the lowest that does
abbrev pub PictureSays : Type 0
PictureSays =
    (quality : ℕ) (output : OutputNumbers) (conversion : Conversion) (previous current next : FrameNumbers) (f : Frames) (room : ℕ)
    → Says (named_tests quality output conversion previous current next f room)

-- What the conversion is given for a pixel lies from 0 to 1, luma and chroma alike, whatever the bytes and the shapes.
abbrev pub SamplesInUnit : Type 0
SamplesInUnit =
    (quality : ℕ) (output : OutputNumbers) (f : Frames) (x y : ℤ)
    → let asked = output_named output in
    let made = quality_for asked.field (quality_named quality) in
    let rows = rows_of asked in
    let before = served asked.before f.previous f.current f.next in
    let after = served asked.after f.previous f.current f.next in
    Unit (sample_of made rows (luma_in before) (luma_in f.current) (luma_in after) x y)
    × Unit (sample_of made rows (cb_in before) (cb_in f.current) (cb_in after) x y)
    × Unit (sample_of made rows (cr_in before) (cr_in f.current) (cr_in after) x y)

-- So of a call that gets 0 no pixel comes from a NaN or from a value outside 0..1, whatever the bytes.
abbrev pub PictureInUnit : Type 0
PictureInUnit =
    (quality : ℕ) (output : OutputNumbers) (conversion : Conversion) (previous current next : FrameNumbers) (f : Frames) (room x y : ℕ)
    → lowest (named_tests quality output conversion previous current next f room) ≡ 0
    → let asked = output_named output in
    InUnit
    (colour_at conversion (quality_for asked.field (quality_named quality)) (rows_of asked) (served asked.before f.previous f.current f.next)
    f.current (served asked.after f.previous f.current f.next) x y)
