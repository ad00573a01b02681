use mathlib.Core.Path.{◌≡◌}
use Prim.Native.Nat.{◌+◌, min}
use native.Mathlib.Omega.{arith}
use Rattle.pulldown.proofs.Symbols.{tag_is}
use Rattle.pulldown.proofs.Step.{entered, few_held}
use Rattle.pulldown.proofs.enter.Goals as goal

pub returns : goal.returns
returns c =
    let a = c.args in
    let held : c.min-held.result ≡ min 15 (a.course.held + 1) = omega arith in (
      rw (
        c.since_after.ensures,
        c.phase_unless.ensures,
        c.held_after.ensures,
        c.contradicts-broken.ensures,
        c.phase_left-left.ensures,
        c.stills_after-stills.ensures,
        held,
        c.place_after.ensures.0,
        tag_is a.symbol,
      ) (entered a.ring.now a.course a.symbol c.requires.0),
      c.place_after.ensures.1,
      rw (c.held_after.ensures, c.contradicts-broken.ensures, c.phase_left-left.ensures, c.stills_after-stills.ensures, held)
          (few_held a.ring.now a.course a.symbol c.requires.0),
    )
