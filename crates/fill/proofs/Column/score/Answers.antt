use Prim.Native.Nat.{◌+◌}
use lib.IntN.{pos, negsuc}
use lib.Ieee.{binary32, add}
use Rattle.filter.specs.Filter.{one, score_of}
use Rattle.filter.specs.Held.{step}
use Rattle.fill.proofs.Columns.{slanting}
use Rattle.fill.proofs.Slants.{gap_across}
use Rattle.fill.proofs.Column.score.Goals as goal

pub returns : goal.returns
unfolding score_of
returns c = λ v from count y h l.
    let x = pos (from + c.args.self.x) in
    let j = step c.args.t in
    let s = slanting c.args.t c.requires.2 in
    let left = gap_across v x y (negsuc 0) j c.gap.ensures (c.at.ensures v from count _ h.up l) (c.at-2.ensures v from count _ h.down l) s.up_left s.down_left in
    let mid = gap_across v x y (pos 0) j c.gap-2.ensures (c.at-3.ensures v from count _ h.up l) (c.at-4.ensures v from count _ h.down l) s.up_mid s.down_mid in
    let right = gap_across v x y one j c.gap-3.ensures (c.at-5.ensures v from count _ h.up l) (c.at-6.ensures v from count _ h.down l) s.up_right s.down_right in
    λ i. add binary32 (add binary32 (left i) (mid i)) (right i)
