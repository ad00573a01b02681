use Prim.Native.Nat.{◌+◌}
use lib.IntN.{pos, ◌+ℤ◌, ◌-ℤ◌}
use lib.Ieee.{binary32, add}
use Rattle.fill.proofs.Columns.{slanting}
use Rattle.fill.proofs.Slants.{read_as}
use Rattle.fill.proofs.Column.far.Goals as goal

pub returns : goal.returns
returns c = λ v from count y off h l.
    let x = pos (from + c.args.self.x) in
    let s = slanting c.args.t c.requires.3 in
    let a = read_as v x (y -ℤ off) (c.at.ensures v from count (y -ℤ off) h.up l) s.far_up in
    let b = read_as v x (y +ℤ off) (c.at-2.ensures v from count (y +ℤ off) h.down l) s.far_down in
    λ i. add binary32 (a i) (b i)
