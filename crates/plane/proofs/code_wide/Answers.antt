use Prim.Native.Nat.{ℕ, ◌≤◌}
use mathlib.Core.Path.{◌≡◌, ap, ◌∙◌}
use mathlib.Core.List.{List}
use native.Mathlib.Omega.{arith}
use lib.ListN.{get_or}
use Rattle.plane.specs.declared.Shape.{Shape}
use Rattle.plane.specs.Plane.{code_of}
use Rattle.plane.specs.Claims.{AllBytes}
use Rattle.plane.proofs.Claims.{code_within_depth}
use Rattle.plane.proofs.Full.{full_16, full_by_spare}
use Rattle.plane.proofs.Codes.{byte_code, pair_word}
use Rattle.plane.proofs.code_wide.Goals as goal

-- a code fits sixteen bits
fits : (bytes : List ℕ) (s : Shape) (x y : ℕ) {r : ℕ} → r ≡ code_of bytes s x y → (r ≡ code_of bytes s x y) × (r ≤ 65535)
fits bytes s x y e = (e, omega (arith, e, code_within_depth bytes s x y, full_16 s.depth))

pub returns-then-s-le8 : goal.returns-then-s-le8
returns-then-s-le8 c =
    let all-bytes : AllBytes c.args.plane.now = λ i. omega (arith, c.shared_slice_known-1.given i) in
    let a = c.args in
    fits a.plane.now a.s a.x a.y
    (c.byte_at.ensures.0
    ∙ ap (λ (i : ℕ). get_or a.plane.now i 0) c.start_of-i.ensures.0
    ∙ byte_code a.plane.now a.s a.x a.y (all-bytes) c.if-s-le8.true)

pub returns : goal.returns
unfolding code_of
returns c =
    let a = c.args in
    let word = pair_word a.plane.now a.s a.x a.y c.if-s-le8.false in
    let full = full_by_spare a.s.depth c.spare_bits-spare.ensures.0 in
    fits a.plane.now a.s a.x a.y cc
