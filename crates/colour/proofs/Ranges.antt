-- What the tests of a range say of a number that passes them: it is finite, and no larger than the range's ends.
use mathlib.Core.Path.{◌≡◌, refl, sym, subst}
use mathlib.Core.Bool.{Bool, true, false, ◌&&◌, ◌||◌, true≢false}
use Prim.Native.Nat.{ℕ, ◌*◌, ◌≤◌, ◌<◌}
use native.Mathlib.Nat.{le_of_lt, le_of_eq, zero-mul}
use native.Mathlib.Omega.{arith}
use lib.Dec.{T, ltb, eqb, ltb→lt, eqb→eq}
use lib.IntN.{ℤ, pos, negsuc}
use lib.Ieee.{Float, nan, inf, fin, up, down, neg, le, of_bits}
use Rattle.float.specs.Float.{zero_f}
use Rattle.float.specs.Bounds.{Small}
use Rattle.float.proofs.Order.{at_most}
use Rattle.float.proofs.Range.{minus_zero}
use Rattle.colour.specs.declared.Conversion.{Conversion}
use Rattle.colour.specs.Colour.{within_of, sixteen_f, most_weight, most_sample, good_conversion, good_samples}

-- ---- what the two tests of a range say
-- x is finite, and |x| ≤ n * 2 ^ d
abbrev pub Upto : ℕ → ℤ → Float → Type 0
Upto n d nan = ⊥
Upto n d (inf s) = ⊥
Upto n d (fin s m e) = m * up e * down d ≤ n * up d * down e

-- what `le` tests of two values with a minus sign
at_least : (a b : ℕ) → T (ltb b a || (eqb a b && true)) → b ≤ a
at_least a b = go (ltb b a) (eqb a b) (ltb→lt b a) (eqb→eq a b)
  where
    go : (less same : Bool) → (T less → b < a) → (T same → a ≡ b) → T (less || (same && true)) → b ≤ a
    go true same l e t = le_of_lt (l tt)
    go false true l e t = le_of_eq (sym (e tt))
    go false false l e t = elim t [ ]

-- from -n * 2 ^ d to n * 2 ^ d
upto_opposite : (n : ℕ) (d : ℤ) (x : Float) → T (le (fin true n d) x) → T (le x (fin false n d)) → Upto n d x
unfolding le
upto_opposite n d (inf true) low high = absurd low
upto_opposite n d (inf false) low high = absurd high
upto_opposite n d (fin true m e) low high = at_least (n * up d * down e) (m * up e * down d) low
upto_opposite n d (fin false m e) low high = at_most (m * up e * down d) (n * up d * down e) high
upto_opposite n d nan low high = elim low [ ]

-- from 0 to n * 2 ^ d, where the only value with a minus sign is -0
upto_positive : (n : ℕ) (d : ℤ) (x : Float) → T (le zero_f x) → T (le x (fin false n d)) → Upto n d x
unfolding le of_bits
upto_positive n d (inf true) low high = absurd low
upto_positive n d (inf false) low high = absurd high
upto_positive n d (fin true m e) low high = simp (minus_zero m e low, zero-mul) (omega arith)
upto_positive n d (fin false m e) low high = at_most (m * up e * down d) (n * up d * down e) high
upto_positive n d nan low high = elim low [ ]

-- ---- the three ranges
-- both halves of a conjunction that holds
both : (a b : Bool) → a && b ≡ true → (a ≡ true) × (b ≡ true)
both true b h = (refl, h)
both false b h = absurd (true≢false (sym h))

both_tests : (x low high : Float) → within_of x low high ≡ true → T (le low x) × T (le x high)
both_tests x low high h =
    let t = both (le low x) (le x high) h in
    (subst T (sym t.0) tt, subst T (sym t.1) tt)

small_upto : (k : ℕ) (x : Float) → Upto 1 (pos k) x → Small k x
small_upto k (fin s m e) p = record { bound = omega arith }
small_upto k nan p = elim p [ ]
small_upto k (inf _) p = elim p [ ]

-- -16 to 16
small_sixteen : (x : Float) → within_of x (neg sixteen_f) sixteen_f ≡ true → Small 4 x
unfolding neg of_bits
small_sixteen x h = let t = both_tests x (neg sixteen_f) sixteen_f h in small_upto 4 x (upto_opposite 1 (pos 4) x t.0 t.1)

-- 0 to 256
small_sample : (x : Float) → within_of x zero_f most_sample ≡ true → Small 8 x
unfolding of_bits
small_sample x h = let t = both_tests x zero_f most_sample h in small_upto 8 x (upto_positive 1 (pos 8) x t.0 t.1)

-- 0 to 0.4375, which is 7 * 2 ^ -4
abbrev pub Weight : Float → Type 0
Weight = Upto 7 (negsuc 3)

weight_in_range : (x : Float) → within_of x zero_f most_weight ≡ true → Weight x
unfolding of_bits
weight_in_range x h = let t = both_tests x zero_f most_weight h in upto_positive 7 (negsuc 3) x t.0 t.1

-- A weight is at most 1 in size.
pub small_weight : (x : Float) → Weight x → Small 0 x
small_weight (fin s m e) p = record { bound = omega arith }
small_weight nan p = elim p [ ]
small_weight (inf _) p = elim p [ ]

-- ---- all of them
-- what `good_conversion` says of the nine numbers
pub record Bounded (c : Conversion) : Type 0 where
  pub luma_offset : Small 4 c.luma_offset
  pub luma_gain : Small 4 c.luma_gain
  pub chroma_offset : Small 4 c.chroma_offset
  pub chroma_gain : Small 4 c.chroma_gain
  pub kr : Weight c.kr
  pub kb : Weight c.kb
  pub luma_lift : Small 4 c.luma_lift
  pub chroma_cos : Small 4 c.chroma_cos
  pub chroma_sin : Small 4 c.chroma_sin

pub bounded : (c : Conversion) → good_conversion c ≡ true → Bounded c
unfolding good_conversion
bounded c h =
    let t8 = both _ _ h in
    let t7 = both _ _ t8.0 in
    let t6 = both _ _ t7.0 in
    let t5 = both _ _ t6.0 in
    let t4 = both _ _ t5.0 in
    let t3 = both _ _ t4.0 in
    let t2 = both _ _ t3.0 in
    let t1 = both _ _ t2.0 in
    record {
      luma_offset = small_sixteen _ t1.0;
      luma_gain = small_sixteen _ t1.1;
      chroma_offset = small_sixteen _ t2.1;
      chroma_gain = small_sixteen _ t3.1;
      kr = weight_in_range _ t4.1;
      kb = weight_in_range _ t5.1;
      luma_lift = small_sixteen _ t6.1;
      chroma_cos = small_sixteen _ t7.1;
      chroma_sin = small_sixteen _ t8.1;
    }

-- what `good_samples` says of the three samples
pub bounded_samples : (y cb cr : Float) → good_samples y cb cr ≡ true → Small 8 y × Small 8 cb × Small 8 cr
unfolding good_samples
bounded_samples y cb cr h =
    let t2 = both _ _ h in
    let t1 = both _ _ t2.0 in
    (small_sample y t1.0, small_sample cb t1.1, small_sample cr t2.1)
