-- The columns of an expanded row, by their distance from a column of the tile.
use mathlib.Core.Path.{◌≡◌, sym, ◌∙◌, ap}
use mathlib.Core.List.{List}
use Prim.Native.Nat.{ℕ, zero, suc, ◌+◌, ◌-◌, ◌*◌, ◌≤◌, ◌<◌, zero-le}
use native.Mathlib.Nat.{add_assoc}
use native.Mathlib.Omega.{arith}
use borrow.Author.Tests.{le-ltb}
use lib.IntN.{ℤ, pos, negsuc, sub_ℕ, neg_ℤ, ◌+ℤ◌, ◌-ℤ◌, ◌*ℤ◌}
use lib.ListN.{get_or}
use lib.Ieee.{Float, nan}
use Rattle.filter.specs.Filter.{Sampler, one, three}
use Rattle.filter.specs.Held.{step}
use Rattle.filter.proofs.Offsets.{same_difference, add_differences}
use Rattle.fill.specs.Rows.{RowOf}

-- the place x + n holds the column n - 6 off x
off : (x n : ℕ) → sub_ℕ (x + n) 6 ≡ pos x +ℤ sub_ℕ n 6
off x n = same_difference (x + n) 6 (x + n) (0 + 6) (omega arith) ∙ (sym (add_differences x 0 n 6) ∙ ap (λ (z : ℤ). z +ℤ sub_ℕ n 6) (whole x))
  where
    same : (x : ℕ) → x - 0 ≡ x
    same x = omega arith

    whole : (x : ℕ) → sub_ℕ x 0 ≡ pos x
    whole x = simp (le-ltb x 0 zero-le) (ap pos (same x))

pub column :
    {rows : List Float} {start from count : ℕ} {y : ℤ} {v : Sampler} → RowOf rows start from count y v →
    (x n : ℕ) → x < count → n ≤ 12 → get_or rows (start + (x + n)) nan ≡ v (pos (from + x) +ℤ sub_ℕ n 6) y
column {rows} {start} {from} {count} {y} {v} h x n l few =
    let inside : x + n < count + 12 = omega arith in
    let same : from + (x + n) ≡ from + x + n = sym (add_assoc from x n) in
    h.at (x + n) inside ∙ ap (λ (k : ℤ). v k y) (ap (λ (m : ℕ). sub_ℕ m 6) same ∙ off (from + x) n)

-- ---- a slant j, held as t = j + 2: each place read is where the definition looks

pub record Slanting (t : ℕ) (j : ℤ) : Type 0 where
  pub up_left : sub_ℕ (3 + t) 6 ≡ negsuc 0 +ℤ j
  pub up_mid : sub_ℕ (4 + t) 6 ≡ pos 0 +ℤ j
  pub up_right : sub_ℕ (5 + t) 6 ≡ one +ℤ j
  pub down_left : sub_ℕ (7 - t) 6 ≡ negsuc 0 -ℤ j
  pub down_mid : sub_ℕ (8 - t) 6 ≡ pos 0 -ℤ j
  pub down_right : sub_ℕ (9 - t) 6 ≡ one -ℤ j
  pub near_up : sub_ℕ (4 + t) 6 ≡ j
  pub near_down : sub_ℕ (8 - t) 6 ≡ neg_ℤ j
  pub far_up : sub_ℕ (3 * t) 6 ≡ three *ℤ j
  pub far_down : sub_ℕ (12 - 3 * t) 6 ≡ neg_ℤ (three *ℤ j)

pub slanting : (t : ℕ) → t ≤ 4 → Slanting t (step t)
slanting zero l = search arith
slanting (suc zero) l = search arith
slanting (suc (suc zero)) l = search arith
slanting (suc (suc (suc zero))) l = search arith
slanting (suc (suc (suc (suc zero)))) l = search arith
slanting (suc (suc (suc (suc (suc n))))) l = absurd (omega arith)
