-- Comparisons of floats one after another. Where a NaN stands none is true, so most suppose nothing of the floats.
use mathlib.Core.Path.{◌≡◌, refl, sym, subst, ◌∙◌}
use mathlib.Core.Bool.{Bool, true, false, ◌&&◌, ◌||◌}
use mathlib.Core.Logic.{⊎_elim}
use Prim.Native.Nat.{ℕ, ◌+◌, ◌*◌, ◌≤◌, ◌<◌}
use native.Mathlib.Nat.{zero-mul, eq-zero-or-pos, le_of_lt, le_of_eq, lt_of_le_of_lt, lt_of_lt_of_le, mul-pos, mul_right_comm, mul-le-mul_right, mul-lt-mul_of_pos_right, lt_of_mul-lt-mul_right}
use native.Mathlib.Omega.{arith}
use lib.Dec.{T, ltb, eqb, eqb→eq, ltb→lt, lt→ltb}
use lib.Ieee.{Float, inf, fin, up, down, lt, eq, le}
use lib.Ieee.Fits.{down_pos}
use lib.Ieee.Scale.{finite}
use Rattle.float.proofs.Order.{at_most, le_of_not_lt}

-- ---- three fractions x / p, y / q and z / r, compared by products

-- the first at most the second, and that below the third
most_below : (x p y q z r : ℕ) → 0 < p → x * q ≤ y * p → y * r < z * q → x * r < z * p
most_below x p y q z r some h k =
    let first : x * r * q ≤ y * p * r = rw (mul_right_comm x r q) (mul-le-mul_right r h) in
    let second : y * p * r < z * p * q = rw (mul_right_comm y p r, mul_right_comm z p q) (mul-lt-mul_of_pos_right k some) in
    lt_of_mul-lt-mul_right q (lt_of_le_of_lt first second)

-- the third below the second, and that at most the first
below_most : (x p y q z r : ℕ) → 0 < p → y * p ≤ x * q → z * q < y * r → z * p < x * r
below_most x p y q z r some h k =
    let first : z * p * q < y * p * r = rw (mul_right_comm z p q, mul_right_comm y p r) (mul-lt-mul_of_pos_right k some) in
    let second : y * p * r ≤ x * r * q = rw (mul_right_comm x r q) (mul-le-mul_right r h) in
    lt_of_mul-lt-mul_right q (lt_of_lt_of_le first second)

-- A product shows whether its first number is 0.
some_product : (x p q : ℕ) → 0 < q → 0 < x * p → 0 < x * q
some_product x p q some h = ⊎_elim none (λ l. mul-pos l some) (eq-zero-or-pos x)
  where
    empty : 0 < 0 → ⊥
    empty l = omega arith

    none : x ≡ 0 → 0 < x * q
    none e = absurd (empty (rw (e, zero-mul) at h))

no_product : (x p q : ℕ) → 0 < p → x * p ≡ 0 → x * q ≡ 0
no_product x p q some e = ⊎_elim (λ h. h) more (eq-zero-or-pos (x * q))
  where
    more : 0 < x * q → x * q ≡ 0
    more l = absurd (omega (arith, some_product x q p some l))

-- the second at most the first, and either it or the third more than 0: so is the first or the third
either : (x p y q z r : ℕ) → 0 < p → 0 < r → y * p ≤ x * q → 0 < y * r + z * q → 0 < x * r + z * p
either x p y q z r some-p some-r h k = ⊎_elim first third (eq-zero-or-pos (z * q))
  where
    first : z * q ≡ 0 → 0 < x * r + z * p
    first e =
        let second : 0 < y * r = omega arith in
        let found : 0 < x * q = omega (arith, some_product y r p some-p second) in
        omega (arith, some_product x q r some-r found)

    third : 0 < z * q → 0 < x * r + z * p
    third l = omega (arith, some_product z q p some-p l)

-- ---- what the tests of two signs say

at_least : (a b : ℕ) → T (ltb b a || (eqb a b && true)) → b ≤ a
at_least a b = go (ltb b a) (eqb a b) (ltb→lt b a) (eqb→eq a b)
  where
    go : (x y : Bool) → (T x → b < a) → (T y → a ≡ b) → T (x || (y && true)) → b ≤ a
    go true y l e t = le_of_lt (l tt)
    go false true l e t = le_of_eq (sym (e tt))
    go false false l e t = elim t [ ]

both_none : (a b : ℕ) → T (eqb a b && eqb a 0) → (a ≡ 0) × (b ≡ 0)
both_none a b = go (eqb a b) (eqb a 0) (eqb→eq a b) (eqb→eq a 0)
  where
    go : (x y : Bool) → (T x → a ≡ b) → (T y → a ≡ 0) → T (x && y) → (a ≡ 0) × (b ≡ 0)
    go true true d e t = (e tt, sym (d tt) ∙ e tt)
    go false y d e t = elim t [ ]
    go true false d e t = elim t [ ]

-- ---- floats

pub lt_le : (a b : Float) → T (lt a b) → T (le a b)
unfolding le
lt_le a b = go (lt a b) (eq a b)
  where
    go : (x y : Bool) → T x → T (x || y)
    go true y t = tt
    go false y t = elim t [ ]

-- Nothing is below itself.
pub lt_not_itself : (a : Float) → T (lt a a) → ⊥
unfolding lt
lt_not_itself (inf true) t = t
lt_not_itself (inf false) t = t
lt_not_itself (fin false m e) t = omega (arith, ltb→lt (m * up e * down e) (m * up e * down e) t)
lt_not_itself (fin true m e) t = omega (arith, ltb→lt (m * up e * down e) (m * up e * down e) t)
lt_not_itself lib.Ieee.nan t = elim t [ ]

-- a at most b, and b below c
pub le_lt : (a b c : Float) → T (le a b) → T (lt b c) → T (lt a c)
unfolding le lt eq
le_lt (inf false) (inf false) (inf u) p q = absurd q
le_lt (inf true) (inf true) (inf u) p q = q
le_lt (inf true) (inf false) (inf u) p q = absurd q
le_lt (inf true) (inf true) (fin u k g) p q = tt
le_lt (inf true) (fin t n d) (inf false) p q = tt
le_lt (inf true) (fin t n d) (fin u k g) p q = tt
le_lt (fin s m e) (inf false) (inf u) p q = absurd q
le_lt (fin s m e) (fin t n d) (inf false) p q = tt
le_lt (fin false m e) (fin false n d) (fin false k g) p q =
    lt→ltb _ _ (most_below (m * up e) (down e) (n * up d) (down d) (k * up g) (down g) (down_pos e) (at_most _ _ p) (ltb→lt _ _ q))
le_lt (fin false m e) (fin true n d) (fin false k g) p q =
    let none = both_none (m * up e * down d) (n * up d * down e) p in
    let first = no_product (m * up e) (down d) (down g) (down_pos d) none.0 in
    let second = no_product (n * up d) (down e) (down g) (down_pos e) none.1 in
    let third : 0 < k * up g * down d = omega (arith, ltb→lt 0 (n * up d * down g + k * up g * down d) q) in
    let found = some_product (k * up g) (down d) (down e) (down_pos e) third in
    lt→ltb (m * up e * down g) (k * up g * down e) (omega arith)
le_lt (fin false m e) (fin true n d) (fin true k g) p q =
    let none = both_none (m * up e * down d) (n * up d * down e) p in
    let second = no_product (n * up d) (down e) (down g) (down_pos e) none.1 in
    omega (arith, ltb→lt (k * up g * down d) (n * up d * down g) q)
le_lt (fin true m e) (fin false n d) (fin false k g) p q =
    let some : 0 < k * up g * down d = omega (arith, ltb→lt (n * up d * down g) (k * up g * down d) q) in
    let third = some_product (k * up g) (down d) (down e) (down_pos e) some in
    lt→ltb 0 (m * up e * down g + k * up g * down e) (omega arith)
le_lt (fin true m e) (fin true n d) (fin false k g) p q =
    lt→ltb 0 (m * up e * down g + k * up g * down e)
    (either (m * up e) (down e) (n * up d) (down d) (k * up g) (down g) (down_pos e) (down_pos g) (at_least _ _ p) (ltb→lt _ _ q))
le_lt (fin true m e) (fin true n d) (fin true k g) p q =
    lt→ltb _ _ (below_most (m * up e) (down e) (n * up d) (down d) (k * up g) (down g) (down_pos e) (at_least _ _ p) (ltb→lt _ _ q))
le_lt lib.Ieee.nan b c p q = elim p [ ]
le_lt (inf false) lib.Ieee.nan c p q = elim p [ ]
le_lt (inf false) (inf false) lib.Ieee.nan p q = elim q [ ]
le_lt (inf false) (inf false) (fin u k g) p q = elim q [ ]
le_lt (inf false) (inf true) c p q = elim p [ ]
le_lt (inf false) (fin t n d) c p q = elim p [ ]
le_lt (inf true) lib.Ieee.nan c p q = elim p [ ]
le_lt (inf true) (inf false) lib.Ieee.nan p q = elim q [ ]
le_lt (inf true) (inf false) (fin u k g) p q = elim q [ ]
le_lt (inf true) (inf true) lib.Ieee.nan p q = elim q [ ]
le_lt (inf true) (fin t n d) lib.Ieee.nan p q = elim q [ ]
le_lt (inf true) (fin t n d) (inf true) p q = elim q [ ]
le_lt (fin s m e) lib.Ieee.nan c p q = elim p [ ]
le_lt (fin s m e) (inf false) lib.Ieee.nan p q = elim q [ ]
le_lt (fin s m e) (inf false) (fin u k g) p q = elim q [ ]
le_lt (fin s m e) (inf true) c p q = elim p [ ]
le_lt (fin s m e) (fin t n d) lib.Ieee.nan p q = elim q [ ]
le_lt (fin s m e) (fin t n d) (inf true) p q = elim q [ ]
le_lt (fin false m e) (fin false n d) (fin true k g) p q = elim q [ ]
le_lt (fin true m e) (fin false n d) (fin true k g) p q = elim q [ ]

-- Of two finite values, the one that is not at most the other is above it.
pub lt_of_not_le : (x y : Float) → T (finite x) → T (finite y) → le y x ≡ false → T (lt x y)
lt_of_not_le x y p q h = go (lt x y) (le_of_not_lt x y p q)
  where
    go : (b : Bool) → (b ≡ false → T (le y x)) → T b
    go true f = tt
    go false f = subst T h (f refl)
