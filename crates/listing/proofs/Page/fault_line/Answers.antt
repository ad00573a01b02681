use native.Mathlib.Omega.{arith}
use Prim.Native.Nat.{◌≤◌}
use lib.ListN.{length}
use Rattle.listing.proofs.Texts.{then}
use Rattle.listing.proofs.Page.fault_line.Goals as goal

pub returns : goal.returns
returns c =
    let page = c.args.self.now in
    let inside : page.at ≤ length page.out.now = omega arith in
    (simp c.from.ensures at (then inside c.add_part.ensures.0 c.add.ensures), omega arith)
