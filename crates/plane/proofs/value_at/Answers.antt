use mathlib.Core.Path.{◌≡◌, sym, subst, ◌∙◌}
use mathlib.Core.List.{List}
use Prim.Native.Nat.{ℕ, ◌^◌}
use native.Mathlib.Omega.{arith}
use lib.Dec.{le→leb}
use lib.IntN.{ℤ}
use lib.Ieee.{Float, in_float}
use Rattle.float.specs.Bounds.{Unit}
use Rattle.plane.specs.declared.Shape.{Shape}
use Rattle.plane.specs.Plane.{full_code, value_of}
use Rattle.plane.proofs.Claims.{value_in_unit}
use Rattle.plane.proofs.Full.{full_by_spare}
use Rattle.plane.specs.Coordinates.{unbiased}
use Rattle.plane.proofs.value_at.Goals as goal

in_unit : (bytes : List ℕ) (s : Shape) (x y : ℤ) {r : Float} → r ≡ value_of bytes s x y → (r ≡ value_of bytes s x y) × Unit r
in_unit bytes s x y e = (e, subst Unit (sym e) (value_in_unit bytes s x y))

pub returns : goal.returns
unfolding value_of
returns c =
    let full : c.full_by-full.result ≡ full_code c.args.s.depth = c.full_by-full.ensures.0 ∙ full_by_spare _ c.spare_bits.ensures.0 in
    let a = c.args in
    let e = full in
    in_unit a.plane.now a.s (unbiased a.x) (unbiased a.y) cc
