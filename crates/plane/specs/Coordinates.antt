-- Signed coordinates (docs/RULES.md, "Planes" and "Rows a field lacks"), and how the code holds one: from -65,544 on, so that it is a
-- natural number. The bias is even and leaves room for every offset that a filter adds.
use Rattle.std.specs.Prelude.{ℕ, suc, ◌-◌, ◌%◌, min, Bool, cond, ◌&&◌, ℤ, pos, negsuc, nat_abs, ◌+ℤ◌}
use Rattle.std.proofs.Math.IntN.{sub_ℕ}
use Rattle.std.specs.Int.Signed.{le_z, lt_z}

-- Coordinates -65,536 to 65,536 are taken. `negsuc n` is -(n + 1).
abbrev pub in_reach : ℤ → Bool
in_reach x = le_z (negsuc 65535) x && le_z x (pos 65536)

-- `code` takes only coordinates inside the plane.
abbrev pub inside : ℕ → ℤ → Bool
inside size x = le_z (pos 0) x && lt_z x (pos size)

-- `at` clamps each coordinate to the plane.
abbrev pub held : ℕ → ℤ → ℕ
held size (pos n) = min n (size - 1)
held size (negsuc n) = 0

-- The parity of a row: the Euclidean remainder by 2, so that -1 is odd.
abbrev pub parity_of : ℤ → ℕ
parity_of (pos n) = n % 2
parity_of (negsuc n) = suc n % 2

-- A coordinate as the code holds it, and 0 for one out of reach; and the coordinate that is so held.
abbrev pub bias_of : ℤ → ℕ
bias_of x = cond (in_reach x) (nat_abs (x +ℤ pos 65544)) 0

abbrev pub unbiased : ℕ → ℤ
unbiased c = sub_ℕ c 65544
