-- Two fields woven into a frame (docs/RULES.md, "Fields and readback", "Planes"; the source is weave.rs): the numbers, the lines, the planes.
use Rattle.std.specs.Prelude.{ℕ, ◌+◌, ◌*◌, ◌/◌, ◌%◌, min, Bool, true, false, cond, ◌&&◌, List, [], ◌∷◌, leb, ltb, eqb, length, take, drop}
use Rattle.laws.specs.Lent.{Slice, Output}
use Rattle.laws.specs.Refusal.{lowest, written}
use Rattle.laws.specs.Rows.{laid, over}
use Rattle.plane.specs.declared.Grid.{Grid}
use Rattle.plane.specs.Plane.{good_shape, grid_shape, plane_bytes, row_bytes, agree, chroma_agrees}
use Rattle.weave.specs.declared.Field.{Field}
use Rattle.weave.specs.declared.Format.{Format}

-- ---- the planes of a field

-- a line of a field is a row of its plane
abbrev pub line_bytes : Grid → ℕ
line_bytes l = row_bytes (grid_shape l)

-- The bounds of a plane, and: a field to be woven has at most 2,176 rows.
abbrev pub good_lines : Grid → Bool
good_lines l = good_shape (grid_shape l) && leb l.height 2176

-- a field: its shape, and the bytes that are lent for each plane
pub record Given : Type 0 where
  pub shape : Field
  pub luma : List ℕ
  pub cb : List ℕ
  pub cr : List ℕ

abbrev pub given_of : Field → List ℕ → List ℕ → List ℕ → Given
given_of shape luma cb cr = record { shape = shape; luma = luma; cb = cb; cr = cr }

-- the same as a call finds it: bytes are read at entry
abbrev pub lent_field : {A B C : Type 0} → Field → Slice A → Slice B → Slice C → Given
lent_field shape luma cb cr = given_of shape luma.entry.now cb.entry.now cr.entry.now

-- ---- lines

-- a line of a field: its bytes without what pads them
abbrev pub line_in : List ℕ → Grid → ℕ → List ℕ
line_in bytes l r = take (line_bytes l) (drop (r * l.stride) bytes)

-- A woven plane alternates top and bottom lines,
unfoldable pub woven_line : List ℕ → Grid → List ℕ → Grid → ℕ → List ℕ
woven_line top t bottom b y = cond (eqb (y % 2) 0) (line_in top t (y / 2)) (line_in bottom b (y / 2))

-- where it stands: a place is a block and an offset, and a line of a field stands so many bytes behind the field's own place
abbrev pub place_in : ℕ × ℕ → Grid → ℕ → ℕ × ℕ
place_in field l r = (field.0, r * l.stride + field.1)

abbrev pub line_place : ℕ × ℕ → Grid → ℕ × ℕ → Grid → ℕ → ℕ × ℕ
line_place top t bottom b y = cond (eqb (y % 2) 0) (place_in top t (y / 2)) (place_in bottom b (y / 2))

-- tightly packed.
unfoldable pub woven_plane : List ℕ → Grid → List ℕ → Grid → List ℕ
woven_plane top t bottom b = laid (t.height * 2) (woven_line top t bottom b)

abbrev pub woven_bytes : Grid → ℕ
woven_bytes l = l.height * 2 * line_bytes l

-- ---- the number of `weave`

abbrev pub good_field : Field → Bool
good_field f = good_lines f.luma && good_lines f.cb && good_lines f.cr

-- chroma planes are half size, rounded up
abbrev pub chroma_fits : Field → Bool
chroma_fits f = chroma_agrees (grid_shape f.luma) (grid_shape f.cb) && chroma_agrees (grid_shape f.luma) (grid_shape f.cr)

-- the two fields agree in width, height and depth
abbrev pub fields_agree : Field → Field → Bool
fields_agree t b = agree (grid_shape t.luma) (grid_shape b.luma)

-- no plane of a field is shorter than its shape needs
abbrev pub whole_field : Field → ℕ → ℕ → ℕ → Bool
whole_field f luma cb cr =
    leb (plane_bytes (grid_shape f.luma)) luma && leb (plane_bytes (grid_shape f.cb)) cb && leb (plane_bytes (grid_shape f.cr)) cr

abbrev pub whole : Given → Bool
whole g = whole_field g.shape (length g.luma) (length g.cb) (length g.cr)

-- the three outputs have room for the woven planes
abbrev pub room_for : Field → ℕ → ℕ → ℕ → Bool
room_for f luma cb cr = leb (woven_bytes f.luma) luma && leb (woven_bytes f.cb) cb && leb (woven_bytes f.cr) cr

-- 4: a shape is outside the bounds. 5: the fields differ in width, height or depth, or a chroma plane is not half its luma's size. 6: a lent plane
-- is shorter than its shape needs. 7: an output is too short.
abbrev pub weave_tests : Given → Given → ℕ → ℕ → ℕ → List (ℕ × Bool)
weave_tests top bottom luma_room cb_room cr_room =
    (4, good_field top.shape && good_field bottom.shape)
    ∷ (5, fields_agree top.shape bottom.shape && chroma_fits top.shape && chroma_fits bottom.shape)
    ∷ (6, whole top && whole bottom)
    ∷ (7, room_for top.shape luma_room cb_room cr_room)
    ∷ []

-- the same, by what is known of the bytes that are lent
abbrev pub tests_of : Field → Field → Bool → Bool → List (ℕ × Bool)
tests_of top bottom long roomy =
    (4, good_field top && good_field bottom)
    ∷ (5, fields_agree top bottom && chroma_fits top && chroma_fits bottom)
    ∷ (6, long)
    ∷ (7, roomy)
    ∷ []

abbrev pub weave_no : Given → Given → ℕ → ℕ → ℕ → ℕ
weave_no top bottom luma_room cb_room cr_room = lowest (weave_tests top bottom luma_room cb_room cr_room)

-- the same of three outputs that are lent
abbrev pub weave_no_of : {A B C : Type 0} → Given → Given → Output A → Output B → Output C → ℕ
weave_no_of top bottom luma cb cr = weave_no top bottom (length luma.entry.now) (length cb.entry.now) (length cr.entry.now)

-- what an output holds after a call that gets this number
abbrev pub woven_after : ℕ → List ℕ → Grid → List ℕ → Grid → List ℕ → List ℕ
woven_after number top t bottom b out = written number (over (woven_plane top t bottom b) out) out

-- ---- the number of a single line

-- 3: the line is outside the woven plane. 4, 5 and 6: as above, of two planes.
abbrev pub line_tests : Grid → ℕ → Grid → ℕ → ℕ → List (ℕ × Bool)
line_tests t top-bytes b bottom-bytes y =
    (3, ltb y (t.height * 2))
    ∷ (4, good_lines t && good_lines b)
    ∷ (5, agree (grid_shape t) (grid_shape b))
    ∷ (6, leb (plane_bytes (grid_shape t)) top-bytes && leb (plane_bytes (grid_shape b)) bottom-bytes)
    ∷ []

abbrev pub line_no : Grid → ℕ → Grid → ℕ → ℕ → ℕ
line_no t top-bytes b bottom-bytes y = lowest (line_tests t top-bytes b bottom-bytes y)

-- A line that is handed out, and where it stands: a line that is refused is empty, at the front of the top field.
abbrev pub line_given : {A B : Type 0} → Slice A → Grid → Slice B → Grid → ℕ → List ℕ
line_given top t bottom b y =
    written (line_no t (length top.entry.now) b (length bottom.entry.now) y) (woven_line top.entry.now t bottom.entry.now b y) []

abbrev pub place_given : {A B : Type 0} → Slice A → Grid → Slice B → Grid → ℕ → ℕ × ℕ
place_given top t bottom b y =
    written (line_no t (length top.entry.now) b (length bottom.entry.now) y) (line_place top.entry.ref_ptr t bottom.entry.ref_ptr b y)
    top.entry.ref_ptr

-- ---- the format of a woven frame

-- twice a number, stopping at 4,294,967,295
abbrev pub doubled : ℕ → ℕ
doubled n = min (n * 2) 4294967295

-- `woven` doubles height and the rate's denominator. The frame is no picture of one field, not progressive, and woven; the rest is the field's.
abbrev pub woven_format : Format → Format
woven_format f = record {
  width = f.width;
  height = doubled f.height;
  depth = f.depth;
  rate_numerator = f.rate_numerator;
  rate_denominator = doubled f.rate_denominator;
  field_pictures = false;
  progressive = false;
  woven = true;
}
