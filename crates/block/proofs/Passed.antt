-- What a call that gets 0 has passed.
use Prim.Native.Nat.{ℕ, ◌≤◌}
use mathlib.Core.Path.{◌≡◌, sym, ap, ◌∙◌}
use mathlib.Core.Bool.{and-eq-true_iff}
use native.Mathlib.Omega.{arith}
use lib.Dec.{leb}
use borrow.Author.Tests.{leb-true}
use Rattle.std.proofs.Common.{Result, Ok}
use Rattle.laws.specs.Refusal.{rising}
use Rattle.refusal.specs.declared.Refusal.{Refusal}
use Rattle.refusal.specs.Refusal.{no_of}
use Rattle.laws.proofs.Refusal.{all_pass}
use Rattle.field.specs.declared.Parity.{Parity}
use Rattle.field.specs.declared.Parity.TheVariants.{Top, Bottom}
use Rattle.field.specs.Field.{first_row_of}
use Rattle.plane.specs.declared.Shape.{Shape}
use Rattle.plane.specs.Plane.{plane_bytes}
use Rattle.block.specs.Answer.{count_tests, count_no, keep_tests, keep_no}
use Rattle.block.specs.Rows.{PictureReady}

pub count_passed : (s : Shape) (bytes room : ℕ) {r : Result Unit Refusal} {done : Unit} → no_of r ≡ count_no s bytes room → r ≡ Ok done → PictureReady s bytes room
unfolding rising
count_passed s bytes room e ok =
    let all = all_pass (count_tests s bytes room) tt (sym e ∙ ap no_of ok) in
    let both = (and-eq-true_iff (leb (plane_bytes s) bytes) _).0 all.1.0 in
    record { good = all.0; long = leb-true _ _ both.0; roomy = leb-true _ _ both.1 }

pub keep_passed : (s : Shape) (bytes room : ℕ) {r : Result Unit Refusal} {done : Unit} → no_of r ≡ keep_no s bytes room → r ≡ Ok done → PictureReady s bytes room
unfolding rising
keep_passed s bytes room e ok =
    let all = all_pass (keep_tests s bytes room) tt (sym e ∙ ap no_of ok) in
    record { good = all.0; long = leb-true _ _ all.1.0; roomy = leb-true _ _ all.1.1.0 }

-- a field starts at row 0 or row 1
pub first_row_most : (parity : Parity) → first_row_of parity ≤ 1
first_row_most Top = omega arith
first_row_most Bottom = omega arith
