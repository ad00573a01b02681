-- The digits that `io::decimal` makes are those of the definition, and a number of 64 bits has at most 20.
use Prim.Native.Nat.{ℕ, zero, suc, ◌+◌, ◌-◌, ◌/◌, ◌%◌, ◌^◌, ◌≤◌, ◌<◌}
use native.Mathlib.Nat.{mod-eq_of_lt, mod-lt, div-lt_iff_lt-mul, le-div_iff_mul-le, div-lt_self, pow-suc, le_trans, le_refl, add-suc}
use native.Mathlib.Omega.{arith}
use mathlib.Core.Path.{◌≡◌, refl, sym, ◌∙◌}
use mathlib.Core.Bool.{Bool, true, false}
use mathlib.Core.List.{[], ◌∷◌, ◌++◌}
use lib.Dec.{leb}
use borrow.Author.Tests.{lt-ltb, le-ltb, leb-true, leb-false}
use Rattle.io.specs.Digits.{last_digits, hex_digit_ascii, IsDigitCount}
use Rattle.listing.specs.Listing.{decimal_in, decimal_of}

-- ---- one digit, and the last of several
one_digit : (n : ℕ) → n < 10 → last_digits 10 1 n ≡ (48 + n) ∷ []
one_digit n h = rw (mod-eq_of_lt h, lt-ltb n 10 h)

below_ten : (most n : ℕ) → n < 10 → decimal_in most n ≡ (48 + n) ∷ []
unfolding decimal_in
below_ten zero n h = refl
below_ten (suc most) n h = rw (lt-ltb n 10 h)

from_ten : (most n : ℕ) → 10 ≤ n → decimal_in (suc most) n ≡ decimal_in most (n / 10) ++ ((48 + n % 10) ∷ [])
unfolding decimal_in
from_ten most n h = rw (le-ltb n 10 h)

last_digit : (n : ℕ) → hex_digit_ascii (n % 10) ≡ 48 + n % 10
last_digit n = rw (lt-ltb (n % 10) 10 (mod-lt n (omega arith)))

-- ---- all of them
ten_or_more : (k : ℕ) → 10 ≤ 10 ^ suc k
ten_or_more zero = omega arith
ten_or_more (suc k) =
    let h = ten_or_more k in
    rw (pow-suc 10 (suc k)) (omega arith)

fewer : (n most : ℕ) → 10 ≤ n → n ≤ suc most → n / 10 ≤ most
fewer n most g h =
    let d : n / 10 < n = div-lt_self (omega arith) (omega arith) in
    omega arith

too_small : (k n : ℕ) → n ≤ 0 → 10 ^ suc k ≤ n → ⊥
too_small k n h f =
    let g = ten_or_more k in
    omega arith

spelt : (k most n : ℕ) → n ≤ most → n < 10 ^ suc k → (0 < k → 10 ^ k ≤ n) → decimal_in most n ≡ last_digits 10 (suc k) n
spelt zero most n h a b = below_ten most n a ∙ sym (one_digit n a)
spelt (suc k) zero n h a b = absurd (too_small k n h (b (omega arith)))
spelt (suc k) (suc most) n h a b =
    let f : 10 ^ suc k ≤ n = b (omega arith) in
    let g : 10 ≤ n = le_trans (ten_or_more k) f in
    let u : n / 10 < 10 ^ suc k = (div-lt_iff_lt-mul {k = 10} (omega arith)).1 (rw (pow-suc 10 (suc k)) at a) in
    let v : 10 ^ k ≤ n / 10 = (le-div_iff_mul-le {k = 10} (omega arith)).1 (rw (pow-suc 10 k) at f) in
    from_ten most n g ∙ rw (spelt k most (n / 10) (fewer n most g h) u (λ _. v), last_digit n)

no_digit : 1 ≤ 0 → ⊥
no_digit h = omega arith

less_one : (k : ℕ) → suc k - 1 ≡ k
less_one k = omega arith

pub spelled : (k n : ℕ) → IsDigitCount 10 1 n k → last_digits 10 k n ≡ decimal_of n
unfolding decimal_of
spelled zero n f = absurd (no_digit f.0)
spelled (suc k) n f = sym (spelt k n n (le_refl n) f.1 (λ h. rw (less_one k) at (f.2 (omega arith))))

-- ---- at most 20
growing : (j : ℕ) → 10 ^ 20 ≤ 10 ^ (20 + j)
growing zero = omega arith
growing (suc j) =
    let h = growing j in
    rw (add-suc 20 j, pow-suc 10 (20 + j)) (omega arith)

too_large : (k n : ℕ) → 10 ^ (k - 1) ≤ n → 20 < k → n < 18446744073709551616 → ⊥
too_large k n f g h =
    let e : k - 1 ≡ 20 + (k - 21) = omega arith in
    let m = growing (k - 21) in
    let q : 10 ^ (20 + (k - 21)) ≤ n = rw e at f in
    omega arith

few_if : (k n : ℕ) → IsDigitCount 10 1 n k → n < 18446744073709551616 → (b : Bool) → leb k 20 ≡ b → k ≤ 20
few_if k n f h true e = leb-true k 20 e
few_if k n f h false e =
    let g : 20 < k = leb-false k 20 e in
    absurd (too_large k n (f.2 (omega arith)) g h)

pub few : (k n : ℕ) → IsDigitCount 10 1 n k → n < 18446744073709551616 → k ≤ 20
few k n f h = few_if k n f h (leb k 20) refl
