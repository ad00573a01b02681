-- What the inner functions of `picture` promise; only they cite it.
use Rattle.std.specs.Prelude.{ℕ, ◌+◌, ◌*◌, ◌/◌, ◌%◌, ◌≤◌, ◌<◌, ◌≡◌, true, List, pos, length, get_or, take, drop, Float}
use Rattle.std.specs.Float.{nan}
use Rattle.std.specs.Borrow.{Bor}
use Rattle.laws.specs.Lent.{Slice}
use Rattle.laws.specs.Rows.{laid}
use Rattle.plane.specs.declared.Shape.{Shape}
use Rattle.plane.specs.declared.Planes.{Planes}
use Rattle.plane.specs.Plane.{half}
use Rattle.filter.specs.declared.Quality.{Quality}
use Rattle.filter.specs.declared.Rows.{Rows}
use Rattle.filter.specs.declared.Making.{Making}
use Rattle.filter.specs.Rows.{rows_of, good_rows}
use Rattle.filter.specs.Making.{sample_in, planes_good, planes_alike, planes_whole}
use Rattle.fill.specs.declared.Place.{Place}
use Rattle.fill.specs.Fill.{part_made}
use Rattle.colour.specs.declared.Conversion.{Conversion}
use Rattle.colour.specs.Colour.{converted_of}
use Rattle.picture.specs.declared.Asked.{Asked}
use Rattle.picture.specs.declared.Recipe.{Recipe}
use Rattle.picture.specs.declared.Lent.{Lent}
use Rattle.picture.specs.declared.Trio.{Trio}
use Rattle.picture.specs.Picture.{served, quality_for, pixel_of, Frames, frames_of}

-- ---- which frames serve

abbrev pub making_of : Quality → Rows → Shape → Shape → Shape → Making
making_of quality rows before cur after = record { quality = quality; rows = rows; before = before; cur = cur; after = after }

abbrev pub recipe_of : Conversion → Quality → Rows → Planes → Planes → Planes → Recipe
recipe_of conversion quality rows before cur after = record {
  luma = making_of quality rows before.luma cur.luma after.luma;
  cb = making_of quality rows before.cb cur.cb after.cb;
  cr = making_of quality rows before.cr cur.cr after.cr;
  conversion = conversion;
}

abbrev pub recipe_for : Asked → Recipe
recipe_for asked =
    recipe_of asked.conversion (quality_for asked.output.field asked.quality) (rows_of asked.output)
    (served asked.output.before asked.previous asked.current asked.next) asked.current
    (served asked.output.after asked.previous asked.current asked.next)

-- the bytes of one plane, in the frames that serve as before, cur and after
pub record Serving : Type 0 where
  pub before : List ℕ
  pub cur : List ℕ
  pub after : List ℕ

-- of what is lent: as it is, and as it was at the start of a call
abbrev pub serving_in : Bor (List ℕ) → Bor (List ℕ) → Bor (List ℕ) → Serving
serving_in before cur after = record { before = before.now; cur = cur.now; after = after.now }

abbrev pub serving : {A B C : Type 0} → Slice A → Slice B → Slice C → Serving
serving before cur after = serving_in before.entry cur.entry after.entry

-- and of frames of which all three planes are lent
abbrev pub lumas_in : Trio → Serving
lumas_in t = serving_in t.before.luma t.cur.luma t.after.luma

abbrev pub cbs_in : Trio → Serving
cbs_in t = serving_in t.before.cb t.cur.cb t.after.cb

abbrev pub crs_in : Trio → Serving
crs_in t = serving_in t.before.cr t.cur.cr t.after.cr

abbrev pub frames_in : Asked → Lent → Lent → Lent → Frames
frames_in asked previous current next =
    frames_of asked previous.luma.now previous.cb.now previous.cr.now current.luma.now current.cb.now current.cr.now next.luma.now next.cb.now next.cr.now

-- ---- what was judged before a row is made

-- three planes of which any part can be made that lies within and has room
pub record Makeable (m : Making) (t : Serving) : Type 0 where
  pub asked : good_rows m.rows ≡ true
  pub good : planes_good m ≡ true
  pub alike : planes_alike m ≡ true
  pub whole : planes_whole m (length t.before) (length t.cur) (length t.after) ≡ true

-- three frames of such planes, with chroma of half size
pub record Paintable (r : Recipe) (luma cb cr : Serving) : Type 0 where
  pub lumas : Makeable r.luma luma
  pub cbs : Makeable r.cb cb
  pub crs : Makeable r.cr cr
  pub width_high : r.luma.cur.width ≤ 8192
  pub height_high : r.luma.cur.height ≤ 4352
  pub cb_width : r.cb.cur.width ≡ half r.luma.cur.width
  pub cb_height : r.cb.cur.height ≡ half r.luma.cur.height
  pub cr_width : r.cr.cur.width ≡ half r.luma.cur.width
  pub cr_height : r.cr.cur.height ≡ half r.luma.cur.height

-- ---- what is made

abbrev pub sample_at : Making → Serving → ℕ → ℕ → Float
sample_at m t x y = sample_in m t.before t.cur t.after (pos x) (pos y)

abbrev pub part_in : Making → Serving → Place → List Float
part_in m t place = part_made m place t.before t.cur t.after

unfoldable pub row_in : Recipe → Serving → Serving → Serving → ℕ → List ℕ
row_in r luma cb cr y =
    laid r.luma.cur.width
    (λ x. pixel_of (converted_of r.conversion (sample_at r.luma luma x y) (sample_at r.cb cb (x / 2) (y / 2)) (sample_at r.cr cr (x / 2) (y / 2))))

abbrev pub rows_in : Recipe → Serving → Serving → Serving → List ℕ
rows_in r luma cb cr = laid r.luma.cur.height (row_in r luma cb cr)

-- ---- pixels, of samples that were made

-- a row of samples, of rows laid end to end
abbrev pub cut : List Float → ℕ → ℕ → List Float
cut samples width y = take width (drop (y * width) samples)

-- the pixels of one row
unfoldable pub painted_row : Conversion → ℕ → List Float → List Float → List Float → List ℕ
painted_row conversion width luma cb cr =
    laid width (λ x. pixel_of (converted_of conversion (get_or luma x nan) (get_or cb (x / 2) nan) (get_or cr (x / 2) nan)))

-- and of row y of several
abbrev pub painted_at : Conversion → ℕ → List Float → List Float → List Float → ℕ → List ℕ
painted_at conversion width luma cb cr y =
    painted_row conversion width (cut luma width y) (cut cb (half width) (y / 2)) (cut cr (half width) (y / 2))

-- ---- tiles

-- a part lies in a plane
pub record Inside (place : Place) (s : Shape) : Type 0 where
  pub rows : place.top + place.height ≤ s.height
  pub columns : place.left + place.width ≤ s.width

-- a tile that starts at an even place of a luma plane, and so many bytes for all pixels of its rows
pub record Tile (place : Place) (s : Shape) (out : ℕ) : Type 0 where
  pub inside : Inside place s
  pub few_rows : place.height ≤ 8
  pub few_columns : place.width ≤ 512
  pub even_row : place.top % 2 ≡ 0
  pub even_column : place.left % 2 ≡ 0
  pub room : out ≡ place.height * (s.width * 4)

abbrev pub chroma_of : Place → Place
chroma_of place = record { top = place.top / 2; height = half place.height; left = place.left / 2; width = half place.width }

-- a tile of rows that stand `stride` bytes apart, within so many bytes
pub record TileFits (place : Place) (stride out : ℕ) : Type 0 where
  pub rows_high : place.height ≤ 8
  pub columns_high : place.width ≤ 512
  pub stride_high : stride ≤ 32768
  pub columns_within : place.left * 4 + place.width * 4 ≤ stride
  pub rows_within : place.height * stride ≤ out

-- at least as many samples as a tile has
pub record TileMade (place : Place) (luma cb cr : ℕ) : Type 0 where
  pub luma_made : place.height * place.width ≤ luma
  pub cb_made : half place.height * half place.width ≤ cb
  pub cr_made : half place.height * half place.width ≤ cr

-- of each of `count` rows, which stand `width` bytes apart, the first so many bytes
pub record Painted (row : ℕ → List ℕ) (count width upto : ℕ) (out : List ℕ) : Type 0 where
  pub places : (y j : ℕ) → y < count → j < upto → get_or out (y * width + j) 0 ≡ get_or (row y) j 0

-- a part of each of the first `done` rows is written, and what stands to the left of it in any row stays
pub record Tiled (part : ℕ → List ℕ) (count width left span : ℕ) (old new : List ℕ) (done : ℕ) : Type 0 where
  pub long : length new ≡ length old
  pub kept : (y j : ℕ) → y < count → j < left → get_or new (y * width + j) 0 ≡ get_or old (y * width + j) 0
  pub put : (y j : ℕ) → y < done → j < span → get_or new (y * width + (left + j)) 0 ≡ get_or (part y) j 0

abbrev pub painted_tile : Place → ℕ → (ℕ → List ℕ) → List ℕ → List ℕ → ℕ → Type 0
painted_tile place stride part old new done = Tiled part place.height stride (place.left * 4) (place.width * 4) old new done
