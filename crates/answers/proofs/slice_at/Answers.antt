use Prim.Native.Nat.{◌+◌, ◌*◌}
use mathlib.Core.Path.{◌≡◌, ◌∙◌}
use Rattle.packed.specs.Packed.{number_at}
use Rattle.answers.specs.Record.{start_of, size_of}
use Rattle.answers.proofs.Parts.{lies_inside, cuts, cuts_at, starts_outside, ends_outside}
use Rattle.answers.proofs.slice_at.Goals as goal
use Rattle.answers.proofs.slice_at.Goals.{else-from-all-via-then-from-all+else-n-all, else-from-all-via-else-from-all}

pub returns-then-n-all : goal.returns-then-n-all
returns-then-n-all c =
    let a = c.args in
    let starts : c.number_at-from.result ≡ start_of a.answer.now a.numbers a.j =
    c.number_at-from.ensures ∙ (λ i. number_at a.answer.now (4 + c.from.ensures i + 2 * c.from-2.ensures i)) in
    let counts : c.number_at-n.result ≡ size_of a.answer.now a.numbers a.j =
    c.number_at-n.ensures ∙ (λ i. number_at a.answer.now (4 + c.from.ensures i + 2 * c.from-2.ensures i + 1)) in
    let within = c.if-from-all.true in
    let ends = c.if-n-all.true in (
      lies_inside a.answer.now a.numbers a.j _ _ starts counts within ends,
      cuts a.answer.now a.numbers a.j _ _ starts counts within ends,
      cuts_at a.answer.now a.numbers a.j _ _ starts counts within ends a.answer.ref_ptr,
    )

pub returns-else-from-all : goal.returns-else-from-all
returns-else-from-all c =
    let a = c.args in
    let starts : c.number_at-from.result ≡ start_of a.answer.now a.numbers a.j =
    c.number_at-from.ensures ∙ (λ i. number_at a.answer.now (4 + c.from.ensures i + 2 * c.from-2.ensures i)) in
    let counts : c.number_at-n.result ≡ size_of a.answer.now a.numbers a.j =
    c.number_at-n.ensures ∙ (λ i. number_at a.answer.now (4 + c.from.ensures i + 2 * c.from-2.ensures i + 1)) in
    elim c.else-from-all.branch [
      | else-from-all-via-then-from-all+else-n-all w ↦ ends_outside a.answer.now a.numbers a.j _ _ starts counts w.if-from-all.true w.if-n-all.false
      | else-from-all-via-else-from-all w ↦ starts_outside a.answer.now a.numbers a.j _ _ starts counts w.if-from-all.false
    ]
