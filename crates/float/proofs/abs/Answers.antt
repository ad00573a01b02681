-- `float::abs` meets its contract: a value above 0 is its own, and 0 less any other is exact, because the argument is a value of `f32`.
use mathlib.Core.Path.{◌≡◌, refl, sym, subst}
use mathlib.Core.Bool.{true, false, true≢false}
use Prim.Native.Nat.{zero, suc, ◌*◌, ◌<◌, ◌≤◌}
use native.Mathlib.Nat.{zero-lt-suc, mul-pos, zero-mul, zero-add, mul-one, one-mul}
use native.Mathlib.Omega.{arith}
use borrow.Author.Tests.{ltb-false}
use lib.Dec.{T}
use lib.Ieee.{Float, nan, inf, fin, binary32, up, down, lt, sub, sum, neg, fits, of_bits}
use lib.Ieee.Fits.{up_pos, neg-fits}
use Rattle.float.specs.Float.{zero_f, abs_of}
use Rattle.float.proofs.Rounded.{round_back}
use Rattle.float.proofs.abs.Goals as goal

above_zero : (x : Float) → lt zero_f x ≡ true → x ≡ abs_of x
unfolding abs_of lt of_bits
above_zero nan h = refl
above_zero (inf true) h = absurd (true≢false (sym h))
above_zero (inf false) h = refl
above_zero (fin true m e) h = absurd (true≢false (sym h))
above_zero (fin false m e) h = refl

not-above : (x : Float) → T (fits binary32 x) → lt zero_f x ≡ false → sub binary32 zero_f x ≡ abs_of x
unfolding abs_of lt sub neg sum of_bits
not-above nan t h = refl
not-above (inf true) t h = refl
not-above (inf false) t h = absurd (true≢false h)
not-above (fin true m e) t h = simp (zero-mul, zero-add, mul-one, one-mul) (round_back binary32 false m e (neg-fits binary32 (fin true m e) t))
not-above (fin false zero e) t h = simp (zero-mul, one-mul) (simp zero-mul at (round_back binary32 false 0 e t))
not-above (fin false (suc m) e) t h =
    let p : 0 < suc m * up e = mul-pos (zero-lt-suc m) (up_pos e) in
    let q : suc m * up e ≤ 0 = simp (zero-mul, mul-one) at (ltb-false (0 * 1 * down e) (suc m * up e * 1) h) in
    absurd (omega arith)

pub returns-then-x : goal.returns-then-x
returns-then-x c = above_zero c.args.x c.if-x.true

pub returns-else-x : goal.returns-else-x
returns-else-x c = not-above c.args.x (subst T (sym c.well_formed.0.1) tt) c.if-x.false
