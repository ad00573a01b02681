-- Laws of whole numbers of 64 bits as the code counts with them: a number below 0 as -(n + 1), and back.
use Prim.Native.Nat.{ℕ, zero, suc, ◌+◌, ◌-◌, ◌<◌, ◌^◌}
use mathlib.Core.Path.{◌≡◌, refl, sym, ap, subst, ◌∙◌}
use mathlib.Core.Bool.{Bool, true, false, true≢false}
use native.Mathlib.Omega.{arith}
use lib.Dec.{T}
use lib.IntN.{ℤ, pos, negsuc, neg_ℤ, nat_abs, ◌+ℤ◌, ◌-ℤ◌}
use lib.Signed.{lt_z, non_neg}
use borrow.Author.Tests.{lt-ltb, ltb-true}
use mir.Syntax.{w64}
use mir.Val.{SFits, Fits, to_z, of_z}
use mir.ValLaws.{to_z-of_z}
use Rattle.laws.proofs.Below.{turned_small}
use Rattle.weavedesk.specs.Waiting.{whole_kind, whole_size}

-- ---- by cases

none : (n : ℕ) → n < 0 → ⊥
none n l = omega arith

pub below_kind : (z : ℤ) → lt_z z (pos 0) ≡ true → whole_kind z ≡ 2
below_kind (pos n) h = absurd (none n (ltb-true n 0 h))
below_kind (negsuc n) h = refl

below : (z : ℤ) → lt_z z (pos 0) ≡ true → z ≡ negsuc (whole_size z)
below (pos n) h = absurd (none n (ltb-true n 0 h))
below (negsuc n) h = refl

pub above_kind : (z : ℤ) → lt_z z (pos 0) ≡ false → whole_kind z ≡ 1
above_kind (pos n) h = refl
above_kind (negsuc n) h = absurd (true≢false h)

above : (z : ℤ) → lt_z z (pos 0) ≡ false → z ≡ pos (whole_size z)
above (pos n) h = refl
above (negsuc n) h = absurd (true≢false h)

pub size_small : (z : ℤ) → SFits w64 z → whole_size z < 2 ^ 63
size_small (pos n) f = f.sfits
size_small (negsuc n) f = f.sfits

-- ---- counting

up : (n : ℕ) → negsuc n +ℤ pos 1 ≡ neg_ℤ (pos n)
up zero = refl
up (suc n) =
    let smaller : suc (suc n) - 2 ≡ n = omega arith in
    simp (lt-ltb 1 (suc (suc n)) (omega arith)) (ap negsuc smaller)

negated : (n : ℕ) → pos 0 -ℤ neg_ℤ (pos n) ≡ pos n
negated zero = refl
negated (suc n) =
    let same : 0 + suc n ≡ suc n = omega arith in
    ap pos same

-- ---- the size of a number below 0: at + 1, then 0 less that

module _ (z : ℤ) (f : SFits w64 z) where
  read : to_z w64 (of_z w64 z) ≡ z
  read = to_z-of_z w64 z f

  pub test_read : (b : Bool) → lt_z (to_z w64 (of_z w64 z)) (pos 0) ≡ b → lt_z z (pos 0) ≡ b
  test_read b h = ap (λ (x : ℤ). lt_z x (pos 0)) (sym read) ∙ h

  module _ (h : lt_z (to_z w64 (of_z w64 z)) (pos 0) ≡ true) where
    raised : to_z w64 (of_z w64 z) +ℤ pos 1 ≡ neg_ℤ (pos (whole_size z))
    raised = ap (λ (x : ℤ). x +ℤ pos 1) (read ∙ below z (test_read true h)) ∙ up (whole_size z)

    pub raised_fits : SFits w64 (to_z w64 (of_z w64 z) +ℤ pos 1)
    raised_fits = subst (λ (x : ℤ). SFits w64 x) (sym raised) (turned_small w64 (whole_size z) (size_small z f))

    size : pos 0 -ℤ to_z w64 (of_z w64 (to_z w64 (of_z w64 z) +ℤ pos 1)) ≡ pos (whole_size z)
    size = ap (λ (x : ℤ). pos 0 -ℤ x) (to_z-of_z w64 _ raised_fits ∙ raised) ∙ negated (whole_size z)

    pub size_fits : SFits w64 (pos 0 -ℤ to_z w64 (of_z w64 (to_z w64 (of_z w64 z) +ℤ pos 1)))
    size_fits = subst (λ (x : ℤ). SFits w64 x) (sym size) record { sfits = size_small z f }

    pub size_read : to_z w64 (of_z w64 (pos 0 -ℤ to_z w64 (of_z w64 (to_z w64 (of_z w64 z) +ℤ pos 1)))) ≡ pos (whole_size z)
    size_read = to_z-of_z w64 _ size_fits ∙ size

  module _ (h : lt_z (to_z w64 (of_z w64 z)) (pos 0) ≡ false) where
    pub plain_read : to_z w64 (of_z w64 z) ≡ pos (whole_size z)
    plain_read = read ∙ above z (test_read false h)

-- a number that is a size as it stands can be cast
pub castable : (x : ℤ) (n : ℕ) → n < 2 ^ 63 → x ≡ pos n → T (non_neg x) × Fits w64 (nat_abs x)
castable x n h e = subst (λ (y : ℤ). T (non_neg y) × Fits w64 (nat_abs y)) (sym e) (tt, record { fits = omega arith })
