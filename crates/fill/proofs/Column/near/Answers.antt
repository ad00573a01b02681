use Prim.Native.Nat.{◌+◌}
use lib.IntN.{pos, ◌+ℤ◌, ◌-ℤ◌}
use lib.Ieee.{binary32, add}
use Rattle.filter.specs.Filter.{one, near_of}
use Rattle.fill.proofs.Columns.{slanting}
use Rattle.fill.proofs.Slants.{read_as}
use Rattle.fill.proofs.Column.near.Goals as goal

pub returns : goal.returns
unfolding near_of
returns c = λ v from count y h l.
    let x = pos (from + c.args.self.x) in
    let s = slanting c.args.t c.requires.2 in
    let a = read_as v x (y -ℤ one) (c.at.ensures v from count (y -ℤ one) h.up l) s.near_up in
    let b = read_as v x (y +ℤ one) (c.at-2.ensures v from count (y +ℤ one) h.down l) s.near_down in
    λ i. add binary32 (a i) (b i)
