-- Rows of planes, expanded to floats: ten rows of 524 places in one list. A plane is known by its sampler, a value at two coordinates. Of a row
-- stand the columns of a tile, `count` from the column `from` on, and six more on each side, so that the furthest slant, 3 * 2 columns off, is
-- there too. What lies past an edge of the plane is what the sampler gives.
use Rattle.std.specs.Prelude.{ℕ, ◌+◌, ◌<◌, ◌≡◌, List, ℤ, ◌+ℤ◌, ◌-ℤ◌, ◌*ℤ◌, length, get_or, Float}
use Rattle.std.proofs.Math.IntN.{sub_ℕ}
use Rattle.std.specs.Float.{nan, binary32}
use Rattle.std.specs.Float.Ieee.{add}
use Rattle.filter.specs.Filter.{Sampler, Slant, one, three, near_of}
use Rattle.fill.specs.declared.Pick.{Pick}

-- from the place `start` on, the row y
pub record RowOf (rows : List Float) (start from count : ℕ) (y : ℤ) (v : Sampler) : Type 0 where
  pub at : (i : ℕ) → i < count + 12 → get_or rows (start + i) nan ≡ v (sub_ℕ (from + i) 6) y

-- the rows so many above and below y
pub record Around (rows : List Float) (start from count : ℕ) (y off : ℤ) (v : Sampler) : Type 0 where
  pub up : RowOf rows start from count (y -ℤ off) v
  pub down : RowOf rows (start + 524) from count (y +ℤ off) v

-- the row above y, the row below it, and the row y
pub record Trio (rows : List Float) (start from count : ℕ) (y : ℤ) (v : Sampler) : Type 0 where
  pub near : Around rows start from count y one v
  pub mid : RowOf rows (start + 1048) from count y v

-- what Motion looks at: the rows above and below of cur, and three rows each of before and of after
pub record Motion (rows : List Float) (from count : ℕ) (y : ℤ) (before cur after : Sampler) : Type 0 where
  pub near : Around rows 0 from count y one cur
  pub past : Trio rows 1048 from count y before
  pub coming : Trio rows 2620 from count y after

-- the list is as long as it was, and the same up to a place
pub record Under (new old : List Float) (upto : ℕ) : Type 0 where
  pub size : length new ≡ length old
  pub at : (i : ℕ) → i < upto → get_or new i nan ≡ get_or old i nan

-- ---- a slant, by what lies along it one row and `off` rows away

abbrev pub along_of : Sampler → ℤ → ℤ → ℤ → ℤ → Float
along_of v x y off j = add binary32 (v (x +ℤ three *ℤ j) (y -ℤ off)) (v (x -ℤ three *ℤ j) (y +ℤ off))

abbrev pub picked : Sampler → ℤ → ℤ → ℤ → Slant → Pick
picked v x y off s = record { score = s.score; near = near_of v x y s.by; far = along_of v x y off s.by }
