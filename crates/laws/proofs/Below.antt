-- A number below 0 as the code counts it, 0 less n and then 1 less, of every width.
use Prim.Native.Nat.{ℕ, zero, suc, ◌+◌, ◌-◌, ◌<◌, ◌^◌}
use mathlib.Core.Path.{◌≡◌, refl, sym, ap, subst, ◌∙◌}
use native.Mathlib.Omega.{arith}
use lib.IntN.{ℤ, pos, negsuc, neg_ℤ, ◌-ℤ◌}
use borrow.Author.Tests.{lt-ltb}
use mir.Syntax.{Width}
use mir.Val.{SFits, to_z, of_z, hbits}
use mir.ValLaws.{to_z-of_z, to_z_pos}

turned : (n : ℕ) → pos 0 -ℤ pos n ≡ neg_ℤ (pos n)
turned zero = refl
turned (suc n) =
    let smaller : suc n - 1 ≡ n = omega arith in
    simp (lt-ltb 0 (suc n) (omega arith)) (ap negsuc smaller)

down : (n : ℕ) → neg_ℤ (pos n) -ℤ pos 1 ≡ negsuc n
down zero = refl
down (suc n) =
    let same : suc (n + 0) ≡ suc n = omega arith in
    ap negsuc same

pub turned_small : (w : Width) (n : ℕ) → n < 2 ^ hbits w → SFits w (neg_ℤ (pos n))
turned_small w zero h = record { sfits = h }
turned_small w (suc n) h = record { sfits = omega arith }

module _ (w : Width) (n : ℕ) (h : n < 2 ^ hbits w) where
  pub plain : to_z w n ≡ pos n
  plain = to_z_pos w n h

  minus : pos 0 -ℤ to_z w n ≡ neg_ℤ (pos n)
  minus = ap (λ (x : ℤ). pos 0 -ℤ x) plain ∙ turned n

  pub minus_fits : SFits w (pos 0 -ℤ to_z w n)
  minus_fits = subst (λ (x : ℤ). SFits w x) (sym minus) (turned_small w n h)

  less : to_z w (of_z w (pos 0 -ℤ to_z w n)) -ℤ pos 1 ≡ negsuc n
  less = ap (λ (x : ℤ). x -ℤ pos 1) (to_z-of_z w _ minus_fits ∙ minus) ∙ down n

  pub less_fits : SFits w (to_z w (of_z w (pos 0 -ℤ to_z w n)) -ℤ pos 1)
  less_fits = subst (λ (x : ℤ). SFits w x) (sym less) record { sfits = h }

  pub less_read : to_z w (of_z w (to_z w (of_z w (pos 0 -ℤ to_z w n)) -ℤ pos 1)) ≡ negsuc n
  less_read = to_z-of_z w _ less_fits ∙ less
