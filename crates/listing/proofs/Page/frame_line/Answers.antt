use native.Mathlib.Omega.{arith}
use Prim.Native.Nat.{◌≤◌}
use lib.ListN.{length}
use mathlib.Core.List.{append_assoc}
use Rattle.listing.proofs.Texts.{then}
use Rattle.listing.proofs.Page.frame_line.Goals as goal

pub returns : goal.returns
returns c =
    let page = c.args.self.now in
    let inside : page.at ≤ length page.out.now = omega arith in
    let all = then inside (then inside c.add_number.ensures.0 c.add.ensures) c.add-2.ensures in
    (simp (append_assoc, c.cadence_word.ensures.0, c.lock_end.ensures.0) at all, omega arith)
