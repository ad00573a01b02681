-- A picture of three frames (docs/RULES.md, "Colour and comb"; the source is `picture_of` in filter.rs): its number, and its bytes.
use Rattle.std.specs.Prelude.{ℕ, ◌*◌, ◌/◌, Bool, ◌&&◌, List, [], ◌∷◌, leb, pos, length, Option, Some, None}
use Rattle.laws.specs.Lent.{Slice}
use Rattle.laws.specs.Refusal.{lowest, written}
use Rattle.laws.specs.Rows.{laid, over}
use Rattle.field.specs.declared.Output.{Output}
use Rattle.field.specs.declared.Parity.{Parity}
use Rattle.field.specs.declared.Source.{Source}
use Rattle.field.specs.declared.Source.TheVariants as source
use Rattle.plane.specs.declared.Planes.{Planes}
use Rattle.plane.specs.Plane.{good_shape, plane_bytes, agree, chroma_agrees, value_of}
use Rattle.filter.specs.declared.Quality.{Quality}
use Rattle.filter.specs.declared.Quality.TheVariants.{Weave}
use Rattle.filter.specs.declared.Rows.{Rows}
use Rattle.filter.specs.Filter.{Sampler, sample_of}
use Rattle.filter.specs.Rows.{rows_of}
use Rattle.colour.specs.declared.Conversion.{Conversion}
use Rattle.colour.specs.declared.Rgb.{Rgb}
use Rattle.colour.specs.Colour.{good_conversion, converted_of, quantise_of}
use Rattle.picture.specs.declared.Asked.{Asked}

-- a frame: the shapes of its three planes, and the bytes that are lent for each
pub record Frame : Type 0 where
  pub shapes : Planes
  pub luma : List ℕ
  pub cb : List ℕ
  pub cr : List ℕ

abbrev pub frame_of : Planes → List ℕ → List ℕ → List ℕ → Frame
frame_of shapes luma cb cr = record { shapes = shapes; luma = luma; cb = cb; cr = cr }

-- ---- the number

abbrev pub good_shapes : Planes → Bool
good_shapes p = good_shape p.luma && good_shape p.cb && good_shape p.cr

-- chroma planes are half size, rounded up
abbrev pub chroma_fits : Planes → Bool
chroma_fits p = chroma_agrees p.luma p.cb && chroma_agrees p.luma p.cr

-- no plane is shorter than its shape needs
abbrev pub whole_frame : Planes → ℕ → ℕ → ℕ → Bool
whole_frame p luma cb cr = leb (plane_bytes p.luma) luma && leb (plane_bytes p.cb) cb && leb (plane_bytes p.cr) cr

abbrev pub lent : Frame → Bool
lent f = whole_frame f.shapes (length f.luma) (length f.cb) (length f.cr)

-- 4: a shape is outside the bounds. 5: the frames differ in width, height or depth, or a chroma plane is not half its luma's size. 6: a lent plane
-- is shorter than its shape needs. 7: the lent output is too short. 8: one of the nine numbers is outside its range or a NaN. All three frames are
-- judged, also one that the output does not ask for.
abbrev pub picture_tests : Conversion → Frame → Frame → Frame → ℕ → List (ℕ × Bool)
picture_tests conversion previous current following room =
    (4, good_shapes previous.shapes && good_shapes current.shapes && good_shapes following.shapes)
    ∷ (
      5,
      agree previous.shapes.luma current.shapes.luma && agree following.shapes.luma current.shapes.luma
          && chroma_fits previous.shapes && chroma_fits current.shapes && chroma_fits following.shapes,
    )
    ∷ (6, lent previous && lent current && lent following)
    ∷ (7, leb (current.shapes.luma.height * (current.shapes.luma.width * 4)) room)
    ∷ (8, good_conversion conversion)
    ∷ []

abbrev pub picture_no : Conversion → Frame → Frame → Frame → ℕ → ℕ
picture_no conversion previous current following room = lowest (picture_tests conversion previous current following room)

-- ---- the picture

-- the samplers of a frame's planes
abbrev pub luma_in : Frame → Sampler
luma_in f = value_of f.luma f.shapes.luma

abbrev pub cb_in : Frame → Sampler
cb_in f = value_of f.cb f.shapes.cb

abbrev pub cr_in : Frame → Sampler
cr_in f = value_of f.cr f.shapes.cr

-- `Output` says which of the three frames serves as before and which as after; cur is always the current frame.
abbrev pub served : {A : Type 0} → Source → A → A → A → A
served source.Previous previous current following = previous
served source.Current previous current following = current
served source.Next previous current following = following

-- No field means Weave.
abbrev pub quality_for : Option Parity → Quality → Quality
quality_for (Some parity) quality = quality
quality_for None quality = Weave

-- The colour of a pixel. Chroma is read at (x/2, y/2), through `sample`, so with that row's own parity.
unfoldable pub colour_at : Conversion → Quality → Rows → Frame → Frame → Frame → ℕ → ℕ → Rgb
colour_at conversion quality rows before cur after x y =
    converted_of conversion
    (sample_of quality rows (luma_in before) (luma_in cur) (luma_in after) (pos x) (pos y))
    (sample_of quality rows (cb_in before) (cb_in cur) (cb_in after) (pos (x / 2)) (pos (y / 2)))
    (sample_of quality rows (cr_in before) (cr_in cur) (cr_in after) (pos (x / 2)) (pos (y / 2)))

-- its four bytes; alpha is 255
abbrev pub pixel_of : Rgb → List ℕ
pixel_of rgb = quantise_of rgb.red ∷ quantise_of rgb.green ∷ quantise_of rgb.blue ∷ 255 ∷ []

-- a row of pixels, and the rows laid end to end
unfoldable pub pixel_row : Conversion → Quality → Rows → Frame → Frame → Frame → ℕ → ℕ → List ℕ
pixel_row conversion quality rows before cur after width y = laid width (λ x. pixel_of (colour_at conversion quality rows before cur after x y))

unfoldable pub pixel_rows : Conversion → Quality → Rows → Frame → Frame → Frame → List ℕ
pixel_rows conversion quality rows before cur after =
    laid cur.shapes.luma.height (λ y. pixel_row conversion quality rows before cur after cur.shapes.luma.width y)

abbrev pub picture_whole : Quality → Output → Conversion → Frame → Frame → Frame → List ℕ
picture_whole quality output conversion previous current following =
    pixel_rows conversion (quality_for output.field quality) (rows_of output) (served output.before previous current following) current
    (served output.after previous current following)

-- ---- a call

pub record Frames : Type 0 where
  pub previous : Frame
  pub current : Frame
  pub next : Frame

-- the frames that are asked for, of these bytes
abbrev pub frames_of : Asked → List ℕ → List ℕ → List ℕ → List ℕ → List ℕ → List ℕ → List ℕ → List ℕ → List ℕ → Frames
frames_of asked previous-luma previous-cb previous-cr current-luma current-cb current-cr next-luma next-cb next-cr = record {
  previous = frame_of asked.previous previous-luma previous-cb previous-cr;
  current = frame_of asked.current current-luma current-cb current-cr;
  next = frame_of asked.next next-luma next-cb next-cr;
}

-- and of those that a call finds
abbrev pub frames_lent : {A B C D E F G H I : Type 0} → Asked → Slice A → Slice B → Slice C → Slice D → Slice E → Slice F → Slice G → Slice H → Slice I → Frames
frames_lent asked previous-luma previous-cb previous-cr current-luma current-cb current-cr next-luma next-cb next-cr =
    frames_of asked previous-luma.entry.now previous-cb.entry.now previous-cr.entry.now current-luma.entry.now current-cb.entry.now
    current-cr.entry.now next-luma.entry.now next-cb.entry.now next-cr.entry.now

-- its number, of frames and of room for the picture
abbrev pub asked_no : Asked → Frames → ℕ → ℕ
asked_no asked f room = picture_no asked.conversion f.previous f.current f.next room

-- what the output holds afterwards, by the number
abbrev pub asked_out : ℕ → Asked → Frames → List ℕ → List ℕ
asked_out number asked f out =
    written number (over (picture_whole asked.quality asked.output asked.conversion f.previous f.current f.next) out) out
