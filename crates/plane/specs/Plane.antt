-- A plane of samples (docs/RULES.md, "Planes"): its bounds, where a sample stands, its code and its value.
-- Each definition holds of every shape, within the bounds or not; a read past the end gives 0.
use Rattle.std.specs.Prelude.{ℕ, ◌+◌, ◌-◌, ◌*◌, ◌/◌, ◌^◌, min, max, Bool, true, false, cond, ◌&&◌, List, leb, eqb, ℤ, pos, get_or, Float}
use Rattle.std.specs.Float.{binary32}
use Rattle.std.specs.Float.Ieee.{div, of_int}
use Rattle.plane.specs.declared.Shape.{Shape}
use Rattle.plane.specs.declared.Grid.{Grid}
use Rattle.plane.specs.declared.Planes.{Planes}
use Rattle.plane.specs.declared.Layout.{Layout}
use Rattle.plane.specs.declared.Layout.TheVariants.{Planar, Luma, First, Second}
use Rattle.plane.specs.Coordinates.{held}

-- ---- bounds

-- Two components may share a plane; its row then holds twice the width. How many there are, and which one this is.
abbrev pub components : Layout → ℕ
components Planar = 1
components Luma = 1
components First = 2
components Second = 2

abbrev pub component : Layout → ℕ
component Planar = 0
component Luma = 0
component First = 0
component Second = 1

-- a row holds samples of one component
abbrev pub alone : Layout → Bool
alone Planar = true
alone Luma = true
alone First = false
alone Second = false

-- Depth 8 stores one byte a sample, above that two.
abbrev pub sample_bytes : ℕ → ℕ
sample_bytes depth = cond (leb depth 8) 1 2

abbrev pub row_bytes : Shape → ℕ
row_bytes s = s.width * components s.layout * sample_bytes s.depth

-- Width 1 to 8,192 samples, height 1 to 4,352, depth 8 to 16, stride at most 65,536 bytes and no less than a row.
unfoldable pub good_shape : Shape → Bool
good_shape s =
    leb 1 s.width && leb s.width 8192 && leb 1 s.height && leb s.height 4352 && leb 8 s.depth && leb s.depth 16 && leb s.stride 65536
    && leb (row_bytes s) s.stride

-- A plane needs (height - 1) times stride plus one row.
abbrev pub plane_bytes : Shape → ℕ
plane_bytes s = (s.height - 1) * s.stride + row_bytes s

-- the shape whose codes are unshifted
abbrev pub unshifted : ℕ → ℕ → ℕ → ℕ → Shape
unshifted width height depth stride = record { width = width; height = height; depth = depth; stride = stride; layout = Planar }

abbrev pub grid_shape : Grid → Shape
grid_shape g = unshifted g.width g.height g.depth g.stride

-- ---- codes

-- Row y starts at y times stride.
abbrev pub start_of : Shape → ℕ → ℕ → ℕ
start_of s x y = y * s.stride + (x * components s.layout + component s.layout) * sample_bytes s.depth

-- One byte, or two with the low byte first.
abbrev pub stored_at : List ℕ → ℕ → ℕ → ℕ
stored_at bytes depth i = cond (leb depth 8) (get_or bytes i 0) (get_or bytes i 0 + 256 * get_or bytes (i + 1) 0)

-- Biplanar samples deeper than 8 are shifted right by 16 - depth, planar ones not at all.
abbrev pub biplanar : Layout → Bool
biplanar Planar = false
biplanar Luma = true
biplanar First = true
biplanar Second = true

abbrev pub shift : Layout → ℕ → ℕ
shift layout depth = cond (biplanar layout && leb 9 depth) (16 - depth) 0

-- the number stored at a place, shifted and not cut: what readback copies
abbrev pub word_of : List ℕ → Shape → ℕ → ℕ → ℕ
word_of bytes s x y = stored_at bytes s.depth (start_of s x y) / 2 ^ shift s.layout s.depth

-- The largest code of a depth, 2 ^ depth - 1, a depth outside 8 .. 16 taken for the nearer end.
abbrev pub full_code : ℕ → ℕ
full_code depth = 2 ^ max 8 (min depth 16) - 1

-- What a code is, in every crate: the shifted number, or the largest code of the plane's depth where that is less.
unfoldable pub code_of : List ℕ → Shape → ℕ → ℕ → ℕ
code_of bytes s x y = min (word_of bytes s x y) (full_code s.depth)

-- ---- values

-- `at` clamps each coordinate to the plane and divides the code by 2 ^ depth - 1: one rounding.
unfoldable pub value_of : List ℕ → Shape → ℤ → ℤ → Float
value_of bytes s x y =
    div binary32 (of_int binary32 (pos (code_of bytes s (held s.width x) (held s.height y)))) (of_int binary32 (pos (full_code s.depth)))

-- ---- planes that belong together

-- The three planes, and likewise the two fields of `weave`, must agree in width, height and depth.
abbrev pub agree : Shape → Shape → Bool
agree a b = eqb a.width b.width && eqb a.height b.height && eqb a.depth b.depth

-- Chroma planes are half size, rounded up. Their depth is the luma's.
abbrev pub half : ℕ → ℕ
half n = (n + 1) / 2

abbrev pub chroma_agrees : Shape → Shape → Bool
chroma_agrees luma chroma = eqb chroma.width (half luma.width) && eqb chroma.height (half luma.height) && eqb chroma.depth luma.depth

-- The shapes of a frame in three planes, and in a luma plane and a plane that the two chroma components share.
abbrev pub planar_of : ℕ → ℕ → ℕ → ℕ → ℕ → ℕ → Planes
planar_of width height depth luma-stride cb-stride cr-stride = record {
  luma = record { width = width; height = height; depth = depth; stride = luma-stride; layout = Planar };
  cb = record { width = half width; height = half height; depth = depth; stride = cb-stride; layout = Planar };
  cr = record { width = half width; height = half height; depth = depth; stride = cr-stride; layout = Planar };
}

abbrev pub biplanar_of : ℕ → ℕ → ℕ → ℕ → ℕ → Planes
biplanar_of width height depth luma-stride chroma-stride = record {
  luma = record { width = width; height = height; depth = depth; stride = luma-stride; layout = Luma };
  cb = record { width = half width; height = half height; depth = depth; stride = chroma-stride; layout = First };
  cr = record { width = half width; height = half height; depth = depth; stride = chroma-stride; layout = Second };
}
