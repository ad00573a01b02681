-- How the inner functions judge and copy. Only inner functions cite this file.
use Rattle.std.specs.Prelude.{ℕ, ◌+◌, ◌*◌, ◌/◌, ◌%◌, ◌^◌, ◌≤◌, ◌≡◌, Bool, true, cond, ◌&&◌, Result, Ok, Err, List, [], ◌∷◌, leb, length, get_or}
use Rattle.refusal.specs.declared.Refusal.{Refusal}
use Rattle.refusal.specs.Refusal.{number_of}
use Rattle.plane.specs.declared.Shape.{Shape}
use Rattle.plane.specs.declared.Layout.{Layout}
use Rattle.plane.specs.Plane.{alone, good_shape, plane_bytes, half}
use Rattle.readback.specs.declared.Readback.{Readback}
use Rattle.readback.specs.declared.Kind.{Kind}
use Rattle.readback.specs.declared.Kind.TheVariants.{Byte, EverySecondByte, Pair, EverySecondPair}
use Rattle.readback.specs.declared.Sizes.{Sizes}
use Rattle.readback.specs.Readback.{luma_shape, cb_shape, cr_shape, cr_bytes_of, packed_bytes, outputs_hold}

-- of chroma, which has half the columns and half the rows
abbrev pub chroma_shape : Readback → ℕ → Layout → Shape
chroma_shape r pitch layout = record { width = half r.width; height = half r.height; depth = r.depth; stride = pitch; layout = layout }

-- the shapes are within the bounds, and the planes have the bytes that they need
abbrev pub good_shapes : Readback → Bool
good_shapes r = good_shape (luma_shape r) && good_shape (cb_shape r) && good_shape (cr_shape r)

abbrev pub planes_reach : Readback → ℕ → ℕ → ℕ → Bool
planes_reach r luma second third =
    leb (plane_bytes (luma_shape r)) luma && leb (plane_bytes (cb_shape r)) second && leb (plane_bytes (cr_shape r)) (cr_bytes_of r second third)

-- the copy's number from what the outputs need: its refusal, or 7 where there is no room
abbrev pub with_room : Result Sizes Refusal → ℕ → ℕ → ℕ → ℕ
with_room (Ok sizes) luma_room cb_room cr_room = cond (outputs_hold sizes luma_room cb_room cr_room) 0 7
with_room (Err refused) luma_room cb_room cr_room = number_of refused

abbrev pub kind_by : Bool → Bool → Kind
kind_by byte one = cond byte (cond one Byte EverySecondByte) (cond one Pair EverySecondPair)

abbrev pub kind_of : Shape → Kind
kind_of s = kind_by (leb s.depth 8) (alone s.layout)

-- how many bytes of a row each column has, and how many of the copy
abbrev pub step_of : Kind → ℕ
step_of Byte = 1
step_of EverySecondByte = 2
step_of Pair = 2
step_of EverySecondPair = 4

abbrev pub size_of : Kind → ℕ
size_of Byte = 1
size_of EverySecondByte = 1
size_of Pair = 2
size_of EverySecondPair = 2

-- the number that two bytes are, the low one first, shifted right and given as two bytes again
abbrev pub pair_of : List ℕ → ℕ → ℕ → List ℕ
pair_of row i right =
    (get_or row i 0 + 256 * get_or row (i + 1) 0) / 2 ^ right % 256 ∷ (get_or row i 0 + 256 * get_or row (i + 1) 0) / 2 ^ right / 256 ∷ []

-- the same of column x, where pairs stand so many pairs apart
abbrev pub pair_in : ℕ → List ℕ → ℕ → ℕ → ℕ → List ℕ
pair_in step row lane right x = pair_of row ((x * step + lane) * 2) right

-- the bytes that column x of a row has in the copy
abbrev pub copy_in : Kind → List ℕ → ℕ → ℕ → ℕ → List ℕ
copy_in Byte row lane right x = get_or row x 0 ∷ []
copy_in EverySecondByte row lane right x = get_or row (x * 2 + lane) 0 ∷ []
copy_in Pair row lane right x = pair_in 1 row 0 right x
copy_in EverySecondPair row lane right x = pair_in 2 row lane right x

-- a row, and a place for just its copy
pub record RowRoom (kind : Kind) (width : ℕ) (to row : List ℕ) : Type 0 where
  pub source : length row ≡ width * step_of kind
  pub target : length to ≡ width * size_of kind

-- the same of pairs that stand so many pairs apart
pub record PairsRoom (step width : ℕ) (to row : List ℕ) : Type 0 where
  pub source : length row ≡ width * step * 2
  pub target : length to ≡ width * 2

-- What a copy that gets 0 has passed, of one plane: its shape is within the bounds, it has the bytes that it needs, its output has room.
pub record PlaneReady (s : Shape) (bytes room : ℕ) : Type 0 where
  pub good : good_shape s ≡ true
  pub long : plane_bytes s ≤ bytes
  pub roomy : packed_bytes s ≤ room
