-- Y'CbCr to RGB, and a value as a byte (docs/RULES.md, "Colour and comb"; the source is colour.rs, whose order of operations `to_rgb` keeps).
-- Each step is one rounding of binary32, and its name is the source's.
use Rattle.std.specs.Prelude.{ℕ, Bool, ◌&&◌, Float}
use Rattle.std.specs.Float.{binary32}
use Rattle.std.specs.Float.Ieee.{add, sub, mul, div, neg, le, of_bits, to_unsigned}
use Rattle.float.specs.Float.{zero_f, one_f, clamp_of}
use Rattle.colour.specs.declared.Conversion.{Conversion}
use Rattle.colour.specs.declared.Rgb.{Rgb}
use Rattle.colour.specs.declared.Primaries.{Primaries}
use Rattle.colour.specs.declared.Primaries.TheVariants.{Bt709, Bt2020}

-- ---- ranges

-- low ≤ x ≤ high, which no NaN meets
abbrev pub within_of : Float → Float → Float → Bool
within_of x low high = le low x && le x high

abbrev pub two_f : Float
two_f = of_bits binary32 0x4000_0000

abbrev pub sixteen_f : Float
sixteen_f = of_bits binary32 0x4180_0000

-- 0.4375 and 256
abbrev pub most_weight : Float
most_weight = of_bits binary32 0x3ee0_0000

abbrev pub most_sample : Float
most_sample = of_bits binary32 0x4380_0000

-- Each of the nine numbers is within -16..16; `kr` and `kb` lie in 0..0.4375.
unfoldable pub good_conversion : Conversion → Bool
good_conversion c =
    within_of c.luma_offset (neg sixteen_f) sixteen_f && within_of c.luma_gain (neg sixteen_f) sixteen_f
    && within_of c.chroma_offset (neg sixteen_f) sixteen_f && within_of c.chroma_gain (neg sixteen_f) sixteen_f
    && within_of c.kr zero_f most_weight && within_of c.kb zero_f most_weight
    && within_of c.luma_lift (neg sixteen_f) sixteen_f && within_of c.chroma_cos (neg sixteen_f) sixteen_f
    && within_of c.chroma_sin (neg sixteen_f) sixteen_f

-- The three samples lie in 0..256.
unfoldable pub good_samples : Float → Float → Float → Bool
good_samples y cb cr = within_of y zero_f most_sample && within_of cb zero_f most_sample && within_of cr zero_f most_sample

-- ---- `to_rgb`, step by step

-- luma = (y - luma_offset) * luma_gain + luma_lift
unfoldable pub luma_of : Conversion → Float → Float
luma_of c y = add binary32 (mul binary32 (sub binary32 y c.luma_offset) c.luma_gain) c.luma_lift

-- cb = (cb - chroma_offset) * chroma_gain, and cr alike
unfoldable pub chroma_of : Conversion → Float → Float
chroma_of c x = mul binary32 (sub binary32 x c.chroma_offset) c.chroma_gain

-- u = cb * chroma_cos + cr * chroma_sin, v = cr * chroma_cos - cb * chroma_sin, of the cb and cr so made
unfoldable pub u_of : Conversion → Float → Float → Float
u_of c cb cr = add binary32 (mul binary32 (chroma_of c cb) c.chroma_cos) (mul binary32 (chroma_of c cr) c.chroma_sin)

unfoldable pub v_of : Conversion → Float → Float → Float
v_of c cb cr = sub binary32 (mul binary32 (chroma_of c cr) c.chroma_cos) (mul binary32 (chroma_of c cb) c.chroma_sin)

-- kg = 1 - kr - kb
unfoldable pub kg_of : Conversion → Float
kg_of c = sub binary32 (sub binary32 one_f c.kr) c.kb

-- 2 * (1 - k), and 2 * (1 - k) * k / kg
unfoldable pub doubled_of : Float → Float
doubled_of k = mul binary32 two_f (sub binary32 one_f k)

unfoldable pub share_of : Conversion → Float → Float
share_of c k = div binary32 (mul binary32 (doubled_of k) k) (kg_of c)

-- red = luma + 2 (1 - kr) v, green = luma - (2 (1 - kb) kb / kg) u - (2 (1 - kr) kr / kg) v, blue = luma + 2 (1 - kb) u, each clamped to 0..1
unfoldable pub converted_of : Conversion → Float → Float → Float → Rgb
converted_of c y cb cr = record {
  red = clamp_of (add binary32 (luma_of c y) (mul binary32 (doubled_of c.kr) (v_of c cb cr))) zero_f one_f;
  green =
      clamp_of (sub binary32 (sub binary32 (luma_of c y) (mul binary32 (share_of c c.kb) (u_of c cb cr))) (mul binary32 (share_of c c.kr) (v_of c cb cr)))
      zero_f one_f;
  blue = clamp_of (add binary32 (luma_of c y) (mul binary32 (doubled_of c.kb) (u_of c cb cr))) zero_f one_f;
}

-- ---- a value as a byte

-- `quantise` is value * 255 + 0.5, clamped to 0..255, cut to whole; a NaN gives 0.
unfoldable pub quantise_of : Float → ℕ
quantise_of value =
    to_unsigned 8
    (clamp_of (add binary32 (mul binary32 value (of_bits binary32 0x437f_0000)) (of_bits binary32 0x3f00_0000)) zero_f (of_bits binary32 0x437f_0000))

-- ---- `Primaries::luma`: the source's literals, as they round

unfoldable pub luma_weights : Primaries → Rgb
luma_weights Bt709 = record { red = of_bits binary32 0x3e59_be0a; green = of_bits binary32 0x3f37_1551; blue = of_bits binary32 0x3d93_d966 }
luma_weights Bt2020 = record { red = of_bits binary32 0x3e86_809d; green = of_bits binary32 0x3f2d_9168; blue = of_bits binary32 0x3d72_e48f }
