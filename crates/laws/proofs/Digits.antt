-- A number by its digits to a base.
use Prim.Native.Nat.{ℕ, zero, suc, ◌+◌, ◌*◌, ◌/◌, ◌%◌, ◌≤◌, ◌<◌, ◌^◌}
use mathlib.Core.Path.{◌≡◌, sym, ap, ◌∙◌}
use native.Mathlib.Nat.{pow-zero, pow-suc, one-le-pow, div-div-eq-div-mul, div-one, mod-one, mul_comm, add_comm, suc-mul, mul-le-mul_right}
use native.Mathlib.Numerals.{add-one}
use native.Mathlib.Omega.{arith}
use lib.Arith.{mod-mul}
use lib.Dec.{lit<}
use Rattle.laws.specs.Sums.{sum_over}

-- what is left of a number after one digit more
pub next_digit : (n base i : ℕ) → n / base ^ i / base ≡ n / base ^ (i + 1)
next_digit n base i = div-div-eq-div-mul n (base ^ i) base ∙ ap (λ (p : ℕ). n / p) (sym (pow-suc base i) ∙ ap (λ (k : ℕ). base ^ k) (sym (add-one i)))

pub no_digit : (n base : ℕ) → n ≡ n / base ^ 0
no_digit n base = sym (div-one n) ∙ ap (λ (p : ℕ). n / p) (sym (pow-zero base))

-- the lowest digits make up the number cut to them
pub sum_of_digits : (n base : ℕ) → 0 < base → (k : ℕ) → sum_over k (λ i. n / base ^ i % base * base ^ i) ≡ n % base ^ k
unfolding sum_over
sum_of_digits n base pos zero = sym (ap (λ (p : ℕ). n % p) (pow-zero base) ∙ mod-one n)
sum_of_digits n base pos (suc k) =
    ap (λ (a : ℕ). a + n / base ^ k % base * base ^ k) (sum_of_digits n base pos k)
    ∙ add_comm (n % base ^ k) (n / base ^ k % base * base ^ k)
    ∙ sym (mod-mul n pos (one-le-pow k base pos))
    ∙ ap (λ (p : ℕ). n % p) (mul_comm base (base ^ k) ∙ sym (pow-suc base k))

-- digits below their base make up a number below the base's power
pub digits_below : (base : ℕ) (f : ℕ → ℕ) → ((i : ℕ) → f i < base) → (k : ℕ) → sum_over k (λ i. f i * base ^ i) < base ^ k
unfolding sum_over
digits_below base f small zero = rw (pow-zero base) (lit< tt)
digits_below base f small (suc k) =
    let lower = digits_below base f small k in
    let upper : suc (f k) * base ^ k ≤ base * base ^ k = mul-le-mul_right (base ^ k) (small k) in
    rw (pow-suc base k, mul_comm (base ^ k) base) (omega (arith, lower, upper, suc-mul (f k) (base ^ k)))
