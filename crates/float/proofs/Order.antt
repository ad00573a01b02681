-- The order of floats by their signs and their sizes, and Rust's test for a NaN.
use mathlib.Core.Path.{◌≡◌, refl, sym, subst}
use mathlib.Core.Bool.{Bool, true, false, not, ◌&&◌, ◌||◌, beq}
use Prim.Native.Nat.{ℕ, ◌+◌, ◌*◌, ◌≤◌, ◌<◌}
use native.Mathlib.Nat.{le_of_lt, le_of_eq}
use native.Mathlib.Omega.{arith}
use borrow.Author.Tests.{ltb-false}
use lib.Dec.{T, not_T, ltb, eqb, eqb→eq, ltb→lt}
use lib.Ieee.{Float, nan, inf, fin, up, down, neg, lt, le, ne, is_nan}
use lib.Ieee.Fits.{and_i, eq→eqb, down_pos}
use lib.Ieee.Order.{le_of_values}
use lib.Ieee.Bits.{is_false}
use lib.Ieee.Compare.{differs_from_itself, nan_differs}
use lib.Ieee.Scale.{finite}

-- a value that is no NaN equals itself
number : (x : Float) → T (not (is_nan x)) → ne x x ≡ false
unfolding is_nan
number x n = is_false (ne x x) (not_T (ne x x) (λ (t : T (ne x x)). subst (λ (y : Float). T (not (is_nan y))) (differs_from_itself x t) n))

-- Rust's `x != x` is true of a NaN alone.
pub nan_test : (x : Float) → ne x x ≡ is_nan x
unfolding is_nan
nan_test nan = nan_differs
nan_test (inf s) = number (inf s) tt
nan_test (fin s m e) = number (fin s m e) tt

-- x is no NaN, and its sign is s. A zero and an infinity have one too.
abbrev pub signed : Bool → Float → Bool
signed s nan = false
signed s (inf t) = beq t s
signed s (fin t m e) = beq t s

-- ---- of two signs
both_zero : (a b : ℕ) → a + b ≤ 0 → T (eqb a b && eqb a 0)
both_zero a b h =
    let p : a ≡ b = omega arith in
    let q : a ≡ 0 = omega arith in
    and_i (eqb a b) (eqb a 0) (eq→eqb p) (eq→eqb q)

apart : (a b : ℕ) → T (ltb 0 (a + b) || (eqb a b && eqb a 0))
apart a b = go (ltb 0 (a + b)) refl
  where
    go : (t : Bool) → ltb 0 (a + b) ≡ t → T (t || (eqb a b && eqb a 0))
    go true h = tt
    go false h = both_zero a b (ltb-false 0 (a + b) h)

-- What has a minus sign is at most what has none.
pub signs_le : (x y : Float) → T (signed true x) → T (signed false y) → T (le x y)
unfolding le lt
signs_le (inf true) (inf false) p q = tt
signs_le (inf true) (fin false n d) p q = tt
signs_le (fin true m e) (inf false) p q = tt
signs_le (fin true m e) (fin false n d) p q = apart (m * up e * down d) (n * up d * down e)
signs_le nan y p q = elim p [ ]
signs_le (inf false) y p q = elim p [ ]
signs_le (inf true) nan p q = elim q [ ]
signs_le (inf true) (inf true) p q = elim q [ ]
signs_le (inf true) (fin true n d) p q = elim q [ ]
signs_le (fin false m e) y p q = elim p [ ]
signs_le (fin true m e) nan p q = elim q [ ]
signs_le (fin true m e) (inf true) p q = elim q [ ]
signs_le (fin true m e) (fin true n d) p q = elim q [ ]

-- ---- of one sign
-- What `le` tests of two values with no minus sign.
pub at_most : (a b : ℕ) → T (ltb a b || (eqb a b && true)) → a ≤ b
at_most a b = go (ltb a b) (eqb a b) (ltb→lt a b) (eqb→eq a b)
  where
    go : (x y : Bool) → (T x → a < b) → (T y → a ≡ b) → T (x || (y && true)) → a ≤ b
    go true y l e t = le_of_lt (l tt)
    go false true l e t = le_of_eq (e tt)
    go false false l e t = elim t [ ]

-- what it tests of the same two with a minus sign
turn : (a b : ℕ) → T (ltb a b || (eqb a b && true)) → T (ltb a b || (eqb b a && true))
turn a b = go (ltb a b) (eqb a b) (eqb→eq a b)
  where
    go : (x y : Bool) → (T y → a ≡ b) → T (x || (y && true)) → T (x || (eqb b a && true))
    go true y e t = tt
    go false true e t = and_i (eqb b a) true (eq→eqb (sym (e tt))) tt
    go false false e t = elim t [ ]

-- A minus sign turns the order round.
pub neg_le : (x y : Float) → T (signed false x) → T (signed false y) → T (le x y) → T (le (neg y) (neg x))
unfolding le lt neg
neg_le (inf false) (inf false) p q h = tt
neg_le (fin false m e) (inf false) p q h = tt
neg_le (fin false m e) (fin false n d) p q h = turn (m * up e * down d) (n * up d * down e) h
neg_le nan y p q h = elim p [ ]
neg_le (inf false) nan p q h = elim q [ ]
neg_le (inf false) (inf true) p q h = elim q [ ]
neg_le (inf false) (fin _ n d) p q h = elim h [ ]
neg_le (inf true) y p q h = elim p [ ]
neg_le (fin false m e) nan p q h = elim q [ ]
neg_le (fin false m e) (inf true) p q h = elim q [ ]
neg_le (fin false m e) (fin true n d) p q h = elim q [ ]
neg_le (fin true m e) y p q h = elim p [ ]

-- Of two finite values, the one that is not below the other is at least the other.
pub le_of_not_lt : (x y : Float) → T (finite x) → T (finite y) → lt x y ≡ false → T (le y x)
unfolding lt le neg
le_of_not_lt (fin false m e) (fin false n d) p q h =
    le_of_values (fin false n d) (fin false m e) (n * up d) (down d) (m * up e) (down e) (down_pos d) (down_pos e) (refl, refl) (refl, refl) (ltb-false (m * up e * down d) (n * up d * down e) h)
le_of_not_lt (fin true m e) (fin true n d) p q h =
    neg_le (fin false m e) (fin false n d) tt tt
    (le_of_values (fin false m e) (fin false n d) (m * up e) (down e) (n * up d) (down d) (down_pos e) (down_pos d) (refl, refl) (refl, refl) (ltb-false (n * up d * down e) (m * up e * down d) h))
le_of_not_lt (fin false m e) (fin true n d) p q h = signs_le (fin true n d) (fin false m e) tt tt
le_of_not_lt nan y p q h = elim p [ ]
le_of_not_lt (inf _) y p q h = elim p [ ]
le_of_not_lt (fin false m e) nan p q h = elim q [ ]
le_of_not_lt (fin false m e) (inf _) p q h = elim q [ ]
le_of_not_lt (fin true m e) nan p q h = elim q [ ]
le_of_not_lt (fin true m e) (inf _) p q h = elim q [ ]
le_of_not_lt (fin true m e) (fin false n d) p q h = none (m * up e * down d) (n * up d * down e) (ltb-false 0 (m * up e * down d + n * up d * down e) h)
  where
    none : (a b : ℕ) → a + b ≤ 0 → T (eqb b a && eqb b 0)
    none a b h = both_zero b a (omega arith)
