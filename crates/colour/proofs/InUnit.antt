-- The values of `converted` lie from 0 to 1: each step's size is read off its term by the laws of `float`, so that what is clamped is finite.
use lib.Dec.{lit≤}
use lib.Ieee.{Float, of_bits}
use Rattle.float.specs.Bounds.{Small}
use Rattle.float.proofs.Small.{small_add, small_sub, small_mul, small_div, small_one, small_more, small_finite}
use Rattle.float.proofs.Range.{unit_clamp}
use Rattle.colour.specs.declared.Conversion.{Conversion}
use Rattle.colour.specs.Colour.{two_f, luma_of, chroma_of, u_of, v_of, doubled_of, share_of, converted_of}
use Rattle.colour.specs.Claims.{InUnit}
use Rattle.colour.proofs.Ranges.{Weight, small_weight, Bounded}
use Rattle.colour.proofs.Divisor.{away_kg}

-- ---- 2 (1 - k)
small_two : Small 1 two_f
unfolding of_bits
small_two = record { bound = lit≤ tt }

small_doubled : (k : Float) → Weight k → Small 2 (doubled_of k)
unfolding doubled_of
small_doubled k w = small_mul small_two (small_sub small_one (small_weight k w) tt) tt

-- ---- each step's size, where the nine numbers are in range and the samples are at most 256
module _ (c : Conversion) (b : Bounded c) where
  small_luma : {y : Float} → Small 8 y → Small 14 (luma_of c y)
  unfolding luma_of
  small_luma p = small_add (small_mul (small_sub p (small_more 8 b.luma_offset tt) tt) b.luma_gain tt) (small_more 13 b.luma_lift tt) tt

  small_chroma : {x : Float} → Small 8 x → Small 13 (chroma_of c x)
  unfolding chroma_of
  small_chroma p = small_mul (small_sub p (small_more 8 b.chroma_offset tt) tt) b.chroma_gain tt

  small_share : (k : Float) → Weight k → Small 5 (share_of c k)
  unfolding share_of
  small_share k w = small_div (small_mul (small_doubled k w) (small_weight k w) tt) (away_kg c b.kr b.kb) tt

  module _ {cb cr : Float} (p : Small 8 cb) (q : Small 8 cr) where
    small_u : Small 18 (u_of c cb cr)
    unfolding u_of
    small_u = small_add (small_mul (small_chroma p) b.chroma_cos tt) (small_mul (small_chroma q) b.chroma_sin tt) tt

    small_v : Small 18 (v_of c cb cr)
    unfolding v_of
    small_v = small_sub (small_mul (small_chroma q) b.chroma_cos tt) (small_mul (small_chroma p) b.chroma_sin tt) tt

    -- What is clamped to 0..1 is at most 2 ^ 25.
    pub in_unit : {y : Float} → Small 8 y → InUnit (converted_of c y cb cr)
    unfolding converted_of
    in_unit s =
        let luma = small_luma s in record {
          red = unit_clamp _ (small_finite (small_add (small_more 20 luma tt) (small_mul (small_doubled c.kr b.kr) small_v tt) tt));
          green =
              unit_clamp _
              (small_finite
              (small_sub (small_sub (small_more 23 luma tt) (small_mul (small_share c.kb b.kb) small_u tt) tt)
              (small_more 24 (small_mul (small_share c.kr b.kr) small_v tt) tt)
              tt));
          blue = unit_clamp _ (small_finite (small_add (small_more 20 luma tt) (small_mul (small_doubled c.kb b.kb) small_u tt) tt));
        }
