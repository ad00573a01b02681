-- How the private functions read the rows of a picture. No public contract cites this file.
use Rattle.std.specs.Prelude.{ℕ, ◌+◌, ◌*◌, ◌/◌, ◌^◌, ◌≤◌, ◌<◌, min, ◌≡◌, true, List, length, get_or}
use Rattle.plane.specs.declared.Shape.{Shape}
use Rattle.plane.specs.Plane.{good_shape, plane_bytes}
use Rattle.block.specs.Block.{kept_of}

-- What a call that gets 0 has passed: the shape is within the bounds, the plane has the bytes that it needs, the store has room for the frame.
pub record PictureReady (s : Shape) (bytes room : ℕ) : Type 0 where
  pub good : good_shape s ≡ true
  pub long : plane_bytes s ≤ bytes
  pub roomy : s.height * s.width ≤ room

-- row y of such a plane
pub record RowReady (s : Shape) (bytes y : ℕ) : Type 0 where
  pub good : good_shape s ≡ true
  pub long : plane_bytes s ≤ bytes
  pub inner : y < s.height

-- a list that is what is kept of row y
pub record KeptRow (row bytes : List ℕ) (s : Shape) (y : ℕ) : Type 0 where
  pub wide : length row ≡ s.width
  pub sample : (x : ℕ) → x < s.width → get_or row x 0 ≡ kept_of bytes s x y

-- the kept sample in column x of a row that holds two bytes a sample, the low one first; `right` is the depth less 8
abbrev pub pair_kept : List ℕ → ℕ → ℕ → ℕ
pair_kept row right x = min ((get_or row (x * 2) 0 + 256 * get_or row (x * 2 + 1) 0) / 2 ^ right) 255
