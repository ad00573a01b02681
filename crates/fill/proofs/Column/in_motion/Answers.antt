use mathlib.Core.Path.{refl}
use Prim.Native.Nat.{◌+◌}
use lib.IntN.{pos, ◌+ℤ◌, ◌-ℤ◌}
use Rattle.filter.specs.Filter.{one}
use Rattle.filter.proofs.Motion.{joined}
use Rattle.fill.proofs.Slants.{here}
use Rattle.fill.proofs.Column.in_motion.Goals as goal

pub returns : goal.returns
returns c = λ before cur after from count y m l.
    let x = from + c.args.self.x in
    joined before cur after (pos x) y c.args.along refl refl
    (here before x y (c.at-earlier.ensures before from count y m.past.mid l))
    (here after x y (c.at-later.ensures after from count y m.coming.mid l))
    (here cur x (y -ℤ one) (c.at-c.ensures cur from count (y -ℤ one) m.near.up l))
    (here cur x (y +ℤ one) (c.at-e.ensures cur from count (y +ℤ one) m.near.down l))
    (here before x (y -ℤ one) (c.at.ensures before from count (y -ℤ one) m.past.near.up l))
    (here after x (y -ℤ one) (c.at-2.ensures after from count (y -ℤ one) m.coming.near.up l))
    (here before x (y +ℤ one) (c.at-3.ensures before from count (y +ℤ one) m.past.near.down l))
    (here after x (y +ℤ one) (c.at-4.ensures after from count (y +ℤ one) m.coming.near.down l))
    c.mean-average.ensures
    c.gap-change.ensures
    c.wider-up.ensures
    c.wider-down.ensures
    c.beyond-outside.ensures
    c.max.ensures
    c.max-half.ensures
    c.max-2.ensures
    c.hold.ensures
