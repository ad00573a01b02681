-- What the inner functions of `fill` promise: planes that were tested, and a tile of a line.
use Rattle.std.specs.Prelude.{ℕ, ◌+◌, ◌/◌, ◌^◌, ◌≤◌, ◌<◌, min, ◌≡◌, Bool, not, cond, List, ℤ, pos, length, Float}
use Rattle.std.specs.Float.{binary32}
use Rattle.std.specs.Float.Ieee.{div, lt, of_int}
use Rattle.laws.specs.Rows.{listed}
use Rattle.plane.specs.declared.Shape.{Shape}
use Rattle.plane.specs.Plane.{plane_bytes, stored_at, value_of}
use Rattle.filter.specs.declared.Quality.{Quality}
use Rattle.filter.specs.declared.Quality.TheVariants.{Weave, Bob, Yadif, Bwdif}
use Rattle.filter.specs.Filter.{Sampler, Slant, one, slanted_of, better_of, best_of, sample_of}
use Rattle.filter.specs.Held.{step}
use Rattle.fill.specs.declared.Pick.{Pick}
use Rattle.fill.specs.declared.Source.{Source}
use Rattle.fill.specs.declared.Request.{Request}
use Rattle.fill.specs.Rows.{Around, Motion, picked}

-- ---- what was tested before a row is read

-- a plane of which enough bytes are lent, with those of the bounds that a row's expansion needs
pub record Lent (s : Shape) (bytes : ℕ) : Type 0 where
  pub width_most : s.width ≤ 8192
  pub height_most : s.height ≤ 4352
  pub whole : plane_bytes s ≤ bytes

-- three such planes of one width and height
pub record AllLent (before cur after : Shape) (before-bytes cur-bytes after-bytes : ℕ) : Type 0 where
  pub before_lent : Lent before before-bytes
  pub cur_lent : Lent cur cur-bytes
  pub after_lent : Lent after after-bytes
  pub before_width : cur.width ≡ before.width
  pub before_height : cur.height ≡ before.height
  pub after_width : cur.width ≡ after.width
  pub after_height : cur.height ≡ after.height

-- of a plane beside its shape, and of three
abbrev pub Whole : Source → Type 0
Whole source = Lent source.shape (length source.bytes.now)

abbrev pub AllWhole : Request → Type 0
AllWhole r =
    AllLent r.before.shape r.cur.shape r.after.shape (length r.before.bytes.now) (length r.cur.bytes.now) (length r.after.bytes.now)

-- a tile of row y: some columns, at most 512
pub record Tiled (s : Shape) (y from count : ℕ) : Type 0 where
  pub row : y < s.height
  pub some : 1 ≤ count
  pub few : count ≤ 512
  pub within : from + count ≤ s.width

-- the value of the sample stored at a place, `full` being the largest code
abbrev pub stored_value : List ℕ → ℕ → ℕ → ℕ → ℕ → Float
stored_value bytes depth shift full at =
    div binary32 (of_int binary32 (pos (min (stored_at bytes depth at / 2 ^ shift) full))) (of_int binary32 (pos full))

-- ---- slants

-- a slant with the sums along it, replaced where a score is smaller
unfoldable pub better_in : Pick → Float → Float → Float → Pick
better_in best score near far = cond (lt score best.score) (record { score = score; near = near; far = far }) best

-- the slant held as t tried after `best`; the rows that stand at `far` are `off` rows away
abbrev pub Tries : List Float → ℕ → ℕ → ℕ → Pick → Pick → Type 0
Tries rows far x t best r =
    (v : Sampler) (from count : ℕ) (y off : ℤ) (s : Slant) →
    Around rows 0 from count y one v → Around rows far from count y off v → x < count → best ≡ picked v (pos (from + x)) y off s →
    r ≡ picked v (pos (from + x)) y off (better_of s (step t) (slanted_of v (pos (from + x)) y (step t)))

-- all tried
abbrev pub Picks : List Float → ℕ → ℕ → Pick → Type 0
Picks rows far x r =
    (v : Sampler) (from count : ℕ) (y off : ℤ) →
    Around rows 0 from count y one v → Around rows far from count y off v → x < count → r ≡ picked v (pos (from + x)) y off (best_of v (pos (from + x)) y)

-- ---- of lent planes

abbrev pub value_in : Source → Sampler
value_in source = value_of source.bytes.now source.shape

abbrev pub of_request : {A : Type 0} → (Sampler → Sampler → Sampler → A) → Request → A
of_request read r = read (value_in r.before) (value_in r.cur) (value_in r.after)

abbrev pub Moving : List Float → Request → ℕ → ℕ → ℕ → Type 0
Moving rows r from count y = Motion rows from count (pos y) (value_in r.before) (value_in r.cur) (value_in r.after)

-- `count` columns of row y, from the column `from` on
abbrev pub tile_of : (Sampler → Sampler → Sampler → Sampler) → Request → ℕ → ℕ → ℕ → List Float
tile_of made r from count y = listed count (λ x. of_request made r (pos (from + x)) (pos y))

-- each sample, and so many of one row
abbrev pub sample_for : Request → Sampler
sample_for r = of_request (sample_of r.quality r.shown) r

abbrev pub sample_tile : Request → ℕ → ℕ → ℕ → List Float
sample_tile r from count y = listed count (λ x. sample_for r (pos (from + x)) (pos y))

-- whether a row is shown as cur has it: by whether its parity is that of `mate`, and that of `first`
abbrev pub kept_of : Quality → Bool → Bool → Bool
kept_of Weave mated shown = not mated
kept_of Bob mated shown = shown
kept_of Yadif mated shown = shown
kept_of Bwdif mated shown = shown
