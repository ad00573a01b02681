use Prim.Native.Nat.{ℕ}
use mathlib.Core.Path.{sym, ap, subst, ◌∙◌}
use lib.IntN.{ℤ}
use mir.Syntax.{w32}
use mir.Val.{SFits, to_z, of_z}
use mir.ValLaws.{to_z-of_z}
use Rattle.answers.specs.Record.{signed_of}
use Rattle.answers.proofs.Folded.{small_signed, widened}
use Rattle.answers.proofs.signed.Goals as goal

pub overflow_cast-result : goal.overflow_cast-result
overflow_cast-result c =
    subst (λ (z : ℤ). SFits w32 z) (sym (widened c.number.result c.unfolded.ensures)) (small_signed c.number.result)

pub returns : goal.returns
returns c =
    ap (λ (z : ℤ). to_z w32 (of_z w32 z)) (widened c.number.result c.unfolded.ensures)
    ∙ to_z-of_z w32 _ (small_signed c.number.result)
    ∙ ap (λ (n : ℕ). signed_of 31 n) c.number.ensures
