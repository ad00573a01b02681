-- Sums over whole numbers, by which counts and comb are defined.
use Rattle.std.specs.Prelude.{ℕ, zero, suc, ◌+◌, ◌-◌}

-- f 0 + f 1 + .. + f (n - 1)
unfoldable pub sum_over : ℕ → (ℕ → ℕ) → ℕ
sum_over zero f = 0
sum_over (suc n) f = sum_over n f + f n

-- how far two numbers are apart: one of the two differences is 0
abbrev pub apart : ℕ → ℕ → ℕ
apart a b = (a - b) + (b - a)
