use native.Mathlib.Omega.{arith}
use Prim.Native.Nat.{◌≤◌}
use lib.ListN.{length}
use Rattle.listing.proofs.Texts.{then, flat}
use Rattle.listing.specs.Listing.{decimal_of, whole_first, drop_word, spanning_word, none_word, line_end}
use Rattle.listing.proofs.Page.totals_line.Goals as goal

pub returns : goal.returns
returns c =
    let page = c.args.self.now in
    let t = c.args.tally in
    let inside : page.at ≤ length page.out.now = omega arith in
    let all =
    then inside
    (then inside (then inside (then inside c.add_part.ensures.0 c.add_part-2.ensures.0) c.add_part-3.ensures.0) c.add_part-4.ensures.0)
    c.add.ensures in
    (flat whole_first (decimal_of t.whole) drop_word (decimal_of t.drop) spanning_word (decimal_of t.spanning) none_word (decimal_of t.none) line_end all, omega arith)
