-- The rows a field lacks (docs/RULES.md, "Rows a field lacks"; the source is filter.rs). Each float step is one rounding of binary32, in the
-- source's order. A plane is known here only as a sampler, a value at two coordinates; which planes those are, and what lies past an edge,
-- is the sampler's own affair.
use Rattle.std.specs.Prelude.{cond, eqb, ℤ, pos, negsuc, nat_abs, ◌+ℤ◌, ◌-ℤ◌, ◌*ℤ◌, Float}
use Rattle.std.specs.Float.{binary32}
use Rattle.std.specs.Float.Ieee.{add, sub, mul, div, lt, of_int, of_bits}
use Rattle.float.specs.Float.{zero_f, one_f, abs_of, min_of, max_of, clamp_of}
use Rattle.plane.specs.Coordinates.{parity_of}
use Rattle.filter.specs.declared.Quality.{Quality}
use Rattle.filter.specs.declared.Quality.TheVariants.{Weave, Bob, Yadif, Bwdif}
use Rattle.filter.specs.declared.Rows.{Rows}

abbrev pub Sampler : Type 0
Sampler = ℤ → ℤ → Float

-- ---- numbers

abbrev pub one : ℤ
one = pos 1

abbrev pub three : ℤ
three = pos 3

abbrev pub half_f : Float
half_f = of_bits binary32 0x3f00_0000

abbrev pub nine_f : Float
nine_f = of_bits binary32 0x4110_0000

abbrev pub sixteen_f : Float
sixteen_f = of_bits binary32 0x4180_0000

-- 0.002, by which a slant has to be better than straight up and down
abbrev pub slant_bias : Float
slant_bias = of_bits binary32 0x3b03_126f

-- ---- of two or three values

-- (a + b) * 0.5
unfoldable pub mean_of : Float → Float → Float
mean_of a b = mul binary32 (add binary32 a b) half_f

-- |a - b|
unfoldable pub gap_of : Float → Float → Float
gap_of a b = abs_of (sub binary32 a b)

-- the larger of |a - c|, |b - c|
unfoldable pub wider_of : Float → Float → Float → Float
wider_of a b c = max_of (gap_of a c) (gap_of b c)

-- how far v lies outside c and e: the largest of min(c, e) - v, v - max(c, e), 0
unfoldable pub beyond_of : Float → Float → Float → Float
beyond_of v c e = max_of (max_of (sub binary32 (min_of c e) v) (sub binary32 v (max_of c e))) zero_f

-- ---- Bob: half of (row above + row below), clamped to 0..1

unfoldable pub bob_of : Sampler → ℤ → ℤ → Float
bob_of cur x y = clamp_of (mul binary32 (add binary32 (cur x (y -ℤ one)) (cur x (y +ℤ one))) half_f) zero_f one_f

-- ---- Motion

-- clamped to average - moved .. average + moved, then 0..1
unfoldable pub held_of : Float → Float → Float → Float
held_of along average moved = clamp_of (clamp_of along (sub binary32 average moved) (add binary32 average moved)) zero_f one_f

-- at column x of the missing row y
module _ (before cur after : Sampler) (x y : ℤ) where
  -- average = (before + after) * 0.5
  unfoldable pub average_of : Float
  average_of = mean_of (before x y) (after x y)

  -- change = |before - after|
  unfoldable pub change_of : Float
  change_of = gap_of (before x y) (after x y)

  -- above = larger of |before - c|, |after - c| one row up, c being cur there
  unfoldable pub above_of : Float
  above_of = wider_of (before x (y -ℤ one)) (after x (y -ℤ one)) (cur x (y -ℤ one))

  -- below likewise with e, one row down
  unfoldable pub below_of : Float
  below_of = wider_of (before x (y +ℤ one)) (after x (y +ℤ one)) (cur x (y +ℤ one))

  -- outside = largest of min(c, e) - average, average - max(c, e), 0
  unfoldable pub outside_of : Float
  outside_of = beyond_of average_of (cur x (y -ℤ one)) (cur x (y +ℤ one))

  -- moved = larger of outside and half the largest of change, above, below
  unfoldable pub moved_of : Float
  moved_of = max_of (mul binary32 (max_of (max_of change_of above_of) below_of) half_f) outside_of

  -- a value held by the motion there
  unfoldable pub in_motion_of : Float → Float
  in_motion_of along = held_of along average_of moved_of

-- ---- Edge

-- score j = sum for k = -1, 0, 1 in that order of |cur(x + k + j, y - 1) - cur(x + k - j, y + 1)|. The source's sum starts from -0, which
-- changes no bit, since what is added to it is an absolute value.
unfoldable pub across_of : Sampler → ℤ → ℤ → ℤ → ℤ → Float
across_of cur x y k j = gap_of (cur (x +ℤ (k +ℤ j)) (y -ℤ one)) (cur (x +ℤ (k -ℤ j)) (y +ℤ one))

unfoldable pub score_of : Sampler → ℤ → ℤ → ℤ → Float
score_of cur x y j = add binary32 (add binary32 (across_of cur x y (negsuc 0) j) (across_of cur x y (pos 0) j)) (across_of cur x y one j)

-- plus 0.002 * |j| when j is not 0
unfoldable pub slanted_of : Sampler → ℤ → ℤ → ℤ → Float
slanted_of cur x y j = add binary32 (score_of cur x y j) (mul binary32 slant_bias (of_int binary32 (pos (nat_abs j))))

pub record Slant : Type 0 where
  pub by : ℤ
  pub score : Float

-- a tie keeps the earlier
unfoldable pub better_of : Slant → ℤ → Float → Slant
better_of best j score = cond (lt score best.score) (record { by = j; score = score }) best

-- Try 0, -1, 1, -2, 2.
unfoldable pub best_of : Sampler → ℤ → ℤ → Slant
best_of cur x y =
    better_of (better_of (better_of (better_of (record { by = pos 0; score = score_of cur x y (pos 0) })
    (negsuc 0) (slanted_of cur x y (negsuc 0)))
    (pos 1) (slanted_of cur x y (pos 1)))
    (negsuc 1) (slanted_of cur x y (negsuc 1)))
    (pos 2) (slanted_of cur x y (pos 2))

unfoldable pub edge_of : Sampler → ℤ → ℤ → ℤ
edge_of cur x y = (best_of cur x y).by

-- ---- Yadif and Bwdif, along the edge

-- near = cur(x + j, y - 1) + cur(x - j, y + 1), and far at 3j, three rows off
unfoldable pub near_of : Sampler → ℤ → ℤ → ℤ → Float
near_of cur x y j = add binary32 (cur (x +ℤ j) (y -ℤ one)) (cur (x -ℤ j) (y +ℤ one))

unfoldable pub far_of : Sampler → ℤ → ℤ → ℤ → Float
far_of cur x y j = add binary32 (cur (x +ℤ three *ℤ j) (y -ℤ three)) (cur (x -ℤ three *ℤ j) (y +ℤ three))

-- half of near
unfoldable pub yadif_of : Sampler → Sampler → Sampler → ℤ → ℤ → Float
yadif_of before cur after x y = in_motion_of before cur after x y (mul binary32 (near_of cur x y (edge_of cur x y)) half_f)

-- (9 * near - far) / 16
unfoldable pub cubic_of : Float → Float → Float
cubic_of near far = div binary32 (sub binary32 (mul binary32 nine_f near) far) sixteen_f

unfoldable pub bwdif_of : Sampler → Sampler → Sampler → ℤ → ℤ → Float
bwdif_of before cur after x y = in_motion_of before cur after x y (cubic_of (near_of cur x y (edge_of cur x y)) (far_of cur x y (edge_of cur x y)))

-- ---- a sample

-- a missing row's value, by the quality
unfoldable pub made_of : Quality → Sampler → Sampler → Sampler → ℤ → ℤ → Float
made_of Weave before cur after x y = cur x y
made_of Bob before cur after x y = bob_of cur x y
made_of Yadif before cur after x y = yadif_of before cur after x y
made_of Bwdif before cur after x y = bwdif_of before cur after x y

-- Weave: a row whose parity is `mate` comes from before, others from cur. Otherwise rows of parity `first` come from cur unchanged.
unfoldable pub sample_of : Quality → Rows → Sampler → Sampler → Sampler → ℤ → ℤ → Float
sample_of Weave rows before cur after x y = cond (eqb (parity_of y) rows.mate) (before x y) (cur x y)
sample_of Bob rows before cur after x y = cond (eqb (parity_of y) rows.first) (cur x y) (made_of Bob before cur after x y)
sample_of Yadif rows before cur after x y = cond (eqb (parity_of y) rows.first) (cur x y) (made_of Yadif before cur after x y)
sample_of Bwdif rows before cur after x y = cond (eqb (parity_of y) rows.first) (cur x y) (made_of Bwdif before cur after x y)
