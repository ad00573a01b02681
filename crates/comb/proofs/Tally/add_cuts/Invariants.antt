-- The loop keeps what the columns of the tiles passed took.
use Prim.Native.Nat.{◌+◌, ◌*◌, min}
use mathlib.Core.Path.{◌≡◌}
use Rattle.laws.specs.Sums.{sum_over}
use Rattle.comb.specs.Rows.{bend_in}
use Rattle.comb.specs.Tally.{in_all}
use Rattle.comb.specs.declared.Kind.TheVariants.{Cut}
use Rattle.comb.proofs.Tally.add_cuts.Given as goal

abbrev pub invariant-loop-tile : goal.invariant-loop-tile
invariant-loop-tile l =
    in_all l.self
    ≡ in_all l.initial.self + sum_over (min (256 * l.tile) l.width) (bend_in (Cut l.full) l.rows.up.now l.rows.here.now l.rows.down.now)
