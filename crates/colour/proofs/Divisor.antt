-- The number that `to_rgb` divides by, kg = 1 - kr - kb, is at least an eighth: a weight is at most 7 / 16, and what is left of
-- 16 / 16, first 9 / 16 and then 2 / 16, are values of binary32, below which no larger number rounds.
use Prim.Native.Nat.{ℕ, ◌+◌, ◌-◌, ◌*◌, ◌≤◌, ◌<◌}
use native.Mathlib.Nat.{le_trans, le_of_eq, mul_assoc, mul_comm, mul_right_comm, mul-le-mul_right, mul-pos, add-mul}
use native.Mathlib.Omega.{arith}
use mathlib.Core.Path.{refl}
use mathlib.Core.Bool.{Bool, true, false, not}
use borrow.Author.Tests.{le-ltb}
use lib.Dec.{T, lit<, lit≤}
use lib.Ieee.{Float, nan, inf, fin, binary32, up, down, round, sum, add, sub, neg, of_bits}
use lib.Ieee.Exact.{HasValue}
use lib.Ieee.Fits.{down_pos}
use lib.Ieee.Order.{round_mono}
use lib.Ieee.Positive.{num, den, positive, above, own_value, positive_of_value, values_of_le, above_of_le}
use lib.Ieee.Scale.{finite}
use Rattle.float.specs.Float.{one_f}
use Rattle.float.specs.Bounds.{Small, Away}
use Rattle.float.proofs.Small.{small_one, small_sub, small_more, small_finite}
use Rattle.colour.specs.declared.Conversion.{Conversion}
use Rattle.colour.specs.Colour.{kg_of}
use Rattle.colour.proofs.Ranges.{Weight, small_weight}

-- x is finite, above zero, and at least q / 16
abbrev Sixteenths : ℕ → Float → Type 0
Sixteenths q nan = ⊥
Sixteenths q (inf s) = ⊥
Sixteenths q (fin true m e) = ⊥
Sixteenths q (fin false m e) = q * down e ≤ m * up e * 16

-- binary32 holds q / 16
abbrev Held : ℕ → Type 0
Held q = HasValue (round binary32 false q 16) false q 16

-- ---- what is at least q / 16, rounded
finite_above : (x : Float) → T (above x) → T (finite x) → T (positive x)
finite_above (fin false m e) a f = a
finite_above nan a f = elim a [ ]
finite_above (inf _) a f = elim f [ ]
finite_above (fin true m e) a f = elim a [ ]

by_fraction : (q : ℕ) (x : Float) → T (positive x) → q * den x ≤ num x * 16 → Sixteenths q x
by_fraction q (fin false m e) p h = h
by_fraction q nan p h = elim p [ ]
by_fraction q (inf _) p h = elim p [ ]
by_fraction q (fin true m e) p h = elim p [ ]

module _ (q : ℕ) (v : Held q) (Q : 0 < q) where
  -- A fraction that is at least q / 16 rounds to no less.
  sixteenths_round : (a c : ℕ) → 0 < c → q * c ≤ a * 16 → T (finite (round binary32 false a c)) → Sixteenths q (round binary32 false a c)
  sixteenths_round a c C h f =
      let x = round binary32 false a c in
      let least = round binary32 false q 16 in
      let ordered = round_mono binary32 q 16 a c (lit< tt) C h in
      let p : T (positive least) = positive_of_value least q 16 v Q in
      let r : T (positive x) = finite_above x (above_of_le least x p ordered) f in
      by_fraction q x r (values_of_le least x q 16 (num x) (den x) p r v (own_value x r) ordered)

  -- So does a / c less b / c, and a / c more b / c, which it is where the weight is -0.
  sixteenths_sum : (a b c : ℕ) (s : Bool) → 0 < c → b ≤ a → q * c ≤ (a - b) * 16 → T (finite (sum binary32 false a s b c)) → Sixteenths q (sum binary32 false a s b c)
  unfolding sum
  sixteenths_sum a b c false C h g f = sixteenths_round (a + b) c C (omega arith) f
  sixteenths_sum a b c true C h g f = rw (le-ltb a b h) (sixteenths_round (a - b) c C g (rw (le-ltb a b h) at f))

  -- Taking a weight away takes at most 7 / 16.
  less_weight : (x w : Float) → Sixteenths (q + 7) x → Weight w → T (finite (sub binary32 x w)) → Sixteenths q (sub binary32 x w)
  unfolding sub neg add
  less_weight (fin false m e) (fin s n d) p k f =
      let a = m * up e * down d in
      let b = n * up d * down e in
      let c = down e * down d in
      let weight : n * up d * 16 ≤ 7 * down d = k in
      let enough : q * c + 7 * c ≤ a * 16 =
      le_trans (le_of_eq (simp (add-mul, mul_assoc))) (le_trans (mul-le-mul_right (down d) p) (le_of_eq (mul_right_comm (m * up e) 16 (down d)))) in
      let taken : b * 16 ≤ 7 * c =
      le_trans (le_of_eq (mul_right_comm (n * up d) (down e) 16)) (le_trans (mul-le-mul_right (down e) weight) (le_of_eq (simp (mul_assoc, mul_comm)))) in
      sixteenths_sum a b c (not s) (mul-pos (down_pos e) (down_pos d)) (omega arith) (omega arith) f
  less_weight nan w p k f = elim p [ ]
  less_weight (inf _) w p k f = elim p [ ]
  less_weight (fin false m e) nan p k f = elim k [ ]
  less_weight (fin false m e) (inf _) p k f = elim k [ ]
  less_weight (fin true m e) w p k f = elim p [ ]

-- ---- 16 / 16, 9 / 16, 2 / 16
sixteenths_one : Sixteenths 16 one_f
unfolding of_bits
sixteenths_one = lit≤ tt

held_nine : Held 9
unfolding round
held_nine = (refl, refl)

held_two : Held 2
unfolding round
held_two = (refl, refl)

away_eighth : (x : Float) → Sixteenths 2 x → Away 3 x
away_eighth (fin false m e) p = record { bound = omega arith }
away_eighth nan p = elim p [ ]
away_eighth (inf _) p = elim p [ ]
away_eighth (fin true m e) p = elim p [ ]

-- The divisor is finite, and at least 2 ^ -3.
pub away_kg : (c : Conversion) → Weight c.kr → Weight c.kb → Away 3 (kg_of c)
unfolding kg_of
away_kg c r b =
    let rest = sub binary32 one_f c.kr in
    let small : Small 1 rest = small_sub small_one (small_weight c.kr r) tt in
    let nine : Sixteenths 9 rest = less_weight 9 held_nine (lit< tt) one_f c.kr sixteenths_one r (small_finite small) in
    away_eighth (sub binary32 rest c.kb)
    (less_weight 2 held_two (lit< tt) rest c.kb nine b (small_finite (small_sub small (small_more 1 (small_weight c.kb b) tt) tt)))
