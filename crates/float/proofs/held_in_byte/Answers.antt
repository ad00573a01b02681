-- `float::held_in_byte` meets its contract, by the laws of `proofs/Byte.antt`.
use mathlib.Core.Path.{sym, ◌∙◌, subst}
use native.Mathlib.Omega.{arith}
use lib.Ieee.{of_bits, to_unsigned}
use Rattle.float.proofs.Byte.{Raised, raised_above, raised_zero, below_top, not_below_top}
use Rattle.float.proofs.held_in_byte.Goals as goal
use Rattle.float.proofs.held_in_byte.Goals.{then-x, else-x}

pub returns-then-above : goal.returns-then-above
returns-then-above c =
    let x = c.args.x in
    let raised : Raised x c.if-x.above =
    elim c.if-x.branch [ then-x w ↦ subst (Raised x) (sym w.above-is) (raised_above x w.if-x.true) | else-x w ↦ subst (Raised x) (sym w.above-is) (raised_zero x w.if-x.false) ] in
    (below_top c.if-x.above raised.0 c.if-above.true, raised.1)

pub returns-else-above : goal.returns-else-above
unfolding of_bits to_unsigned
returns-else-above c =
    let x = c.args.x in
    let raised : Raised x c.if-x.above =
    elim c.if-x.branch [ then-x w ↦ subst (Raised x) (sym w.above-is) (raised_above x w.if-x.true) | else-x w ↦ subst (Raised x) (sym w.above-is) (raised_zero x w.if-x.false) ] in
    (record { bound = omega arith }, sym (not_below_top c.if-x.above raised.0 c.if-above.false) ∙ raised.1)
