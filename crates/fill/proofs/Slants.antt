-- The steps of the filters, from what was read of expanded rows.
use mathlib.Core.Path.{◌≡◌, refl, ◌∙◌, ap}
use mathlib.Core.Bool.{Bool, true, false, cond}
use Prim.Native.Nat.{ℕ}
use native.Mathlib.Nat.{add-zero}
use lib.IntN.{ℤ, pos, ◌+ℤ◌, ◌-ℤ◌}
use lib.Ieee.{Float, binary32, add, mul, lt}
use Rattle.float.specs.Float.{zero_f, one_f, clamp_of}
use Rattle.filter.specs.Filter.{Sampler, Slant, one, half_f, gap_of, bob_of, across_of, better_of, near_of}
use Rattle.fill.specs.Rows.{along_of, picked}
use Rattle.fill.specs.Lines.{better_in}

-- a column by another name
pub read_as : {r : Float} {k j : ℤ} (v : Sampler) (x y : ℤ) → r ≡ v (x +ℤ k) y → k ≡ j → r ≡ v (x +ℤ j) y
read_as v x y e d = e ∙ ap (λ (n : ℤ). v (x +ℤ n) y) d

pub here : {r : Float} (v : Sampler) (x : ℕ) (y : ℤ) → r ≡ v (pos x +ℤ pos 0) y → r ≡ v (pos x) y
here v x y e = e ∙ ap (λ (n : ℕ). v (pos n) y) (add-zero x)

pub gap_across :
    {g p q : Float} {m n : ℤ} (v : Sampler) (x y k j : ℤ) → g ≡ gap_of p q → p ≡ v (x +ℤ m) (y -ℤ one) → q ≡ v (x +ℤ n) (y +ℤ one) →
    m ≡ k +ℤ j → n ≡ k -ℤ j → g ≡ across_of v x y k j
unfolding across_of
gap_across v x y k j e a b c d = cc

-- Bob reads straight up and down.
pub bob_is :
    {near bob : Float} (v : Sampler) (x : ℕ) (y : ℤ) → near ≡ near_of v (pos x) y (pos 0) → bob ≡ clamp_of (mul binary32 near half_f) zero_f one_f →
    bob ≡ bob_of v (pos x) y
unfolding near_of bob_of
bob_is v x y e d =
    d
    ∙ (ap (λ (n : Float). clamp_of (mul binary32 n half_f) zero_f one_f) e
    ∙ ap (λ (n : ℕ). clamp_of (mul binary32 (add binary32 (v (pos n) (y -ℤ one)) (v (pos n) (y +ℤ one))) half_f) zero_f one_f) (add-zero x))

pub better_picked :
    (v : Sampler) (x y off : ℤ) (s : Slant) (j : ℤ) (score : Float) →
    better_in (picked v x y off s) score (near_of v x y j) (along_of v x y off j) ≡ picked v x y off (better_of s j score)
unfolding better_in better_of
better_picked v x y off s j score = go (lt score s.score)
  where
    go :
        (b : Bool) →
        cond b (record { score = score; near = near_of v x y j; far = along_of v x y off j }) (picked v x y off s)
        ≡ picked v x y off (cond b (record { by = j; score = score }) s)
    go true = refl
    go false = refl
