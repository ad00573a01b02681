-- A number cut to its place (`cut` of specs/Inner.antt) changes nothing: a cut shape is within the bounds exactly when the shape as given is, and then
-- the two are one. Before 4, which is so judged alike, no call reads a size.
use Prim.Native.Nat.{ℕ, ◌≤◌, ◌<◌, min}
use mathlib.Core.Path.{◌≡◌, refl, sym, subst}
use mathlib.Core.Bool.{Bool, true, false}
use native.Mathlib.Omega.{arith}
use borrow.Author.Tests.{leb-true, le-leb}
use lib.Dec.{leb}
use Rattle.plane.specs.declared.Shape.{Shape}
use Rattle.plane.specs.Plane.{good_shape}
use Rattle.plane.proofs.Bounds.{good_within}
use Rattle.numbers.specs.Inner.{cut}

-- ---- one shape
-- a number whose cut value is within the bounds is not cut
fits : (s : Shape) → min s.width 65535 ≤ 8192 → min s.height 65535 ≤ 4352 → min s.depth 255 ≤ 16 → cut s ≡ s
fits s w h d =
    let width : min s.width 65535 ≡ s.width = omega arith in
    let height : min s.height 65535 ≡ s.height = omega arith in
    let depth : min s.depth 255 ≡ s.depth = omega arith in
    λ i. record { width = width i; height = height i; depth = depth i; stride = s.stride; layout = s.layout }

cut_fits : (s : Shape) → good_shape (cut s) ≡ true → cut s ≡ s
cut_fits s g = let b = good_within (cut s) g in fits s b.width_most b.height_most b.depth_most

pub cut_same : (s : Shape) → good_shape s ≡ true → cut s ≡ s
cut_same s g =
    let b = good_within s g in
    let w : s.width ≤ 8192 = b.width_most in
    let h : s.height ≤ 4352 = b.height_most in
    let d : s.depth ≤ 16 = b.depth_most in
    fits s (omega arith) (omega arith) (omega arith)

-- verdicts of which each follows from the other are one
pub one_verdict : (a b : Bool) → (a ≡ true → b ≡ true) → (b ≡ true → a ≡ true) → a ≡ b
one_verdict true b there back = sym (there refl)
one_verdict false true there back = back refl
one_verdict false false there back = refl

pub cut_good : (s : Shape) → good_shape (cut s) ≡ good_shape s
cut_good s =
    one_verdict (good_shape (cut s)) (good_shape s) (λ g. subst (λ (t : Shape). good_shape t ≡ true) (cut_fits s g) g)
    (λ g. subst (λ (t : Shape). good_shape t ≡ true) (sym (cut_same s g)) g)

-- ---- one size
pub least : (n : ℕ) → leb 1 (min n 65535) ≡ leb 1 n
least n =
    one_verdict (leb 1 (min n 65535)) (leb 1 n) (λ g. le-leb 1 n (omega (arith, leb-true 1 (min n 65535) g)))
    (λ g. le-leb 1 (min n 65535) (omega (arith, leb-true 1 n g)))

pub most : (n k : ℕ) → k < 65535 → leb (min n 65535) k ≡ leb n k
most n k small =
    one_verdict (leb (min n 65535) k) (leb n k) (λ g. le-leb n k (omega (arith, small, leb-true (min n 65535) k g)))
    (λ g. le-leb (min n 65535) k (omega (arith, leb-true n k g)))

pub uncut : (n k : ℕ) → k < 65535 → leb n k ≡ true → min n 65535 ≡ n
uncut n k small g = omega (arith, small, leb-true n k g)
