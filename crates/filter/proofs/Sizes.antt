-- How large the values are on the way to a made row, from samplers whose values are at most 2 ^ 16 in size: every value is finite, so the
-- last clamp brings it into 0..1, and the ends of the clamp before it are in order.
use Prim.Native.Nat.{◌≤◌}
use mathlib.Core.Path.{◌≡◌}
use mathlib.Core.Bool.{Bool, true, false, cond, true≢false}
use lib.Dec.{T, eqb, lit≤}
use lib.IntN.{ℤ, nat_abs, ◌+ℤ◌, ◌-ℤ◌}
use lib.Ieee.{Float, binary32, add, sub, lt, le, of_bits}
use lib.Ieee.Scale.{finite}
use Rattle.float.specs.Bounds.{Small, Away, NotNegative, Unit}
use Rattle.float.proofs.Small.{small_abs, small_min, small_max, small_clamp, small_add, small_sub, small_mul, small_div, small_more, small_zero, small_finite, small_whole}
use Rattle.float.proofs.Order.{le_of_not_lt}
use Rattle.float.proofs.Chain.{lt_of_not_le}
use Rattle.float.proofs.Range.{not_negative_zero, not_negative_max, unit_clamp}
use Rattle.float.proofs.Ends.{ends_in_order}
use Rattle.filter.specs.declared.Quality.{Quality}
use Rattle.filter.specs.declared.Quality.TheVariants.{Weave, Bob, Yadif, Bwdif}
use Rattle.filter.specs.Filter.{Sampler, one, half_f, nine_f, sixteen_f, slant_bias, across_of, score_of, slanted_of, mean_of, gap_of, wider_of, beyond_of, bob_of, held_of, average_of, change_of, above_of, below_of, outside_of, moved_of, in_motion_of, near_of, far_of, yadif_of, cubic_of, bwdif_of, made_of, edge_of}
use Rattle.filter.specs.Rows.{weaves}
use Rattle.filter.specs.Claims.{Readable, whole_score}

-- ---- numbers
small_half : Small 0 half_f
unfolding of_bits
small_half = record { bound = lit≤ tt }

small_nine : Small 4 nine_f
unfolding of_bits
small_nine = record { bound = lit≤ tt }

away_sixteen : Away 0 sixteen_f
unfolding of_bits
away_sixteen = record { bound = lit≤ tt }

-- ---- of values
small_gap : {a b : Float} → Small 16 a → Small 16 b → Small 17 (gap_of a b)
unfolding gap_of
small_gap p q = small_abs (small_sub p q tt)

small_mean : {a b : Float} → Small 16 a → Small 16 b → Small 17 (mean_of a b)
unfolding mean_of
small_mean p q = small_mul (small_add p q tt) small_half tt

small_wider : {a b c : Float} → Small 16 a → Small 16 b → Small 16 c → Small 17 (wider_of a b c)
unfolding wider_of
small_wider p q r = small_max (small_gap p r) (small_gap q r)

small_beyond : {v c e : Float} → Small 17 v → Small 16 c → Small 16 e → Small 18 (beyond_of v c e)
unfolding beyond_of
small_beyond p q r =
    small_max (small_max (small_sub (small_more 17 (small_min q r) tt) p tt) (small_sub p (small_more 17 (small_max q r) tt) tt)) (small_more 18 small_zero tt)

beyond_not_negative : (v c e : Float) → NotNegative (beyond_of v c e)
unfolding beyond_of
beyond_not_negative v c e = not_negative_max _ not_negative_zero

held_in_unit : {along average moved : Float} → Small 24 along → Small 17 average → Small 18 moved → Unit (held_of along average moved)
unfolding held_of
held_in_unit p q r =
    unit_clamp _
    (small_finite (small_clamp (small_more 25 p tt) (small_more 25 (small_sub (small_more 18 q tt) r tt) tt) (small_more 25 (small_add (small_more 18 q tt) r tt) tt)))

small_cubic : {near far : Float} → Small 17 near → Small 17 far → Small 24 (cubic_of near far)
unfolding cubic_of
small_cubic p q = small_more 24 (small_div (small_sub (small_mul small_nine p tt) (small_more 21 q tt) tt) away_sixteen tt) tt

-- ---- of samplers
module _ (before cur after : Sampler) (b : Readable before) (c : Readable cur) (a : Readable after) (x y : ℤ) where
  small_average : Small 17 (average_of before cur after x y)
  unfolding average_of
  small_average = small_mean (b x y) (a x y)

  small_outside : Small 18 (outside_of before cur after x y)
  unfolding outside_of
  small_outside = small_beyond small_average (c x (y -ℤ one)) (c x (y +ℤ one))

  small_moved : Small 18 (moved_of before cur after x y)
  unfolding change_of above_of below_of moved_of
  small_moved =
      let up = y -ℤ one in
      let down = y +ℤ one in
      let above = small_wider (b x up) (a x up) (c x up) in
      let below = small_wider (b x down) (a x down) (c x down) in
      let largest = small_max (small_max (small_gap (b x y) (a x y)) above) below in
      small_max (small_more 18 (small_mul largest small_half tt) tt) small_outside

  moved_not_negative : NotNegative (moved_of before cur after x y)
  unfolding moved_of outside_of
  moved_not_negative = not_negative_max _ (beyond_not_negative _ _ _)

  pub ends_ordered :
      T
      (le (sub binary32 (average_of before cur after x y) (moved_of before cur after x y))
      (add binary32 (average_of before cur after x y) (moved_of before cur after x y)))
  ends_ordered = ends_in_order _ _ (small_finite small_average) (small_finite small_moved) moved_not_negative

  in_motion_in_unit : (along : Float) → Small 24 along → Unit (in_motion_of before cur after x y along)
  unfolding in_motion_of
  in_motion_in_unit along p = held_in_unit p small_average small_moved

  small_near : (j : ℤ) → Small 17 (near_of cur x y j)
  unfolding near_of
  small_near j = small_add (c _ _) (c _ _) tt

  small_far : (j : ℤ) → Small 17 (far_of cur x y j)
  unfolding far_of
  small_far j = small_add (c _ _) (c _ _) tt

  bob_in_unit : Unit (bob_of cur x y)
  unfolding bob_of
  bob_in_unit = unit_clamp _ (small_finite (small_mul (small_add (c x (y -ℤ one)) (c x (y +ℤ one)) tt) small_half tt))

  yadif_in_unit : Unit (yadif_of before cur after x y)
  unfolding yadif_of
  yadif_in_unit = in_motion_in_unit _ (small_more 24 (small_mul (small_near (edge_of cur x y)) small_half tt) tt)

  bwdif_in_unit : Unit (bwdif_of before cur after x y)
  unfolding bwdif_of
  bwdif_in_unit = in_motion_in_unit _ (small_cubic (small_near (edge_of cur x y)) (small_far (edge_of cur x y)))

  pub made_in_unit : (quality : Quality) → weaves quality ≡ false → Unit (made_of quality before cur after x y)
  unfolding made_of
  made_in_unit Weave w = absurd (true≢false w)
  made_in_unit Bob w = bob_in_unit
  made_in_unit Yadif w = yadif_in_unit
  made_in_unit Bwdif w = bwdif_in_unit

-- ---- of scores

small_bias : Small 0 slant_bias
unfolding of_bits
small_bias = record { bound = lit≤ tt }

module _ (cur : Sampler) (c : Readable cur) (x y : ℤ) where
  small_score : (j : ℤ) → Small 19 (score_of cur x y j)
  unfolding score_of across_of
  small_score j = small_add (small_add (small_gap (c _ _) (c _ _)) (small_gap (c _ _) (c _ _)) tt) (small_more 18 (small_gap (c _ _) (c _ _)) tt) tt

  small_slanted : (j : ℤ) → nat_abs j ≤ 2 → Small 20 (slanted_of cur x y j)
  unfolding slanted_of
  small_slanted j few = small_add (small_score j) (small_more 19 (small_mul small_bias (small_whole 1 (nat_abs j) few tt) tt) tt) tt

  finite_score : (j : ℤ) → nat_abs j ≤ 2 → T (finite (whole_score cur x y j))
  finite_score j few = go (eqb (nat_abs j) 0)
    where
      go : (b : Bool) → T (finite (cond b (score_of cur x y j) (slanted_of cur x y j)))
      go true = small_finite (small_score j)
      go false = small_finite (small_slanted j few)

  pub scores_compare :
      (i j : ℤ) →
      nat_abs i ≤ 2 →
      nat_abs j ≤ 2 →
      (lt (whole_score cur x y i) (whole_score cur x y j) ≡ false → T (le (whole_score cur x y j) (whole_score cur x y i)))
      × (le (whole_score cur x y i) (whole_score cur x y j) ≡ false → T (lt (whole_score cur x y j) (whole_score cur x y i)))
  scores_compare i j few-i few-j =
      let a = finite_score i few-i in
      let b = finite_score j few-j in
      (le_of_not_lt _ _ a b, λ h. lt_of_not_le _ _ b a h)
