-- The loop keeps the lock of the codes passed, and their cadences.
use Prim.Native.Nat.{◌<◌}
use mathlib.Core.Path.{ap, ◌∙◌}
use native.Mathlib.Omega.{arith}
use lib.ListN.{length}
use borrow.Author.Tests.{leb-true}
use Rattle.laws.proofs.Lists.{fill_starts, fills}
use Rattle.field.specs.Field.{cadence_number}
use Rattle.pulldown.specs.declared.Lock.{Lock}
use Rattle.pulldown.specs.Codes.{seen_before}
use Rattle.pulldown.proofs.Codes.{unread, still_known, cadence_known}
use Rattle.pulldown.proofs.cadences_of.Goals as goal

pub loop-code-init : goal.loop-code-init
unfolding seen_before
loop-code-init c =
    let fresh = c.new-lock.ensures in
    (fill_starts, record { lock = fresh; count = ap (λ (l : Lock). l.course.taken) fresh; next = omega (arith, ap (λ (l : Lock). l.course.next) fresh) })

pub loop-code-preserved : goal.loop-code-preserved
loop-code-preserved c =
    let loop = c.loop-code in
    let codes = c.args.codes.now in
    let filled = loop.invariant.0 in
    let room : loop.code-index < length codes = omega (arith, filled.long) in
    let few : loop.code-index < 4000000000 = omega (arith, leb-true _ _ c.in_ok-unless.ensures) in
    let code = unread filled in
    let left = c.take_code-after.ensures.0 in (
      fills filled room (c.number.ensures ∙ ap cadence_number c.cadence_by.ensures ∙ cadence_known codes loop.invariant.1 code few left),
      still_known codes loop.invariant.1 code few left c.take_code-after.ensures.1,
    )
