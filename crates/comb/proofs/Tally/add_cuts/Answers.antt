-- The loop keeps what the columns of the tiles passed took.
use Prim.Native.Nat.{ℕ, ◌+◌, ◌*◌, min}
use mathlib.Core.Path.{◌≡◌, ap, ◌∙◌}
use native.Mathlib.Omega.{arith}
use Rattle.laws.specs.Sums.{sum_over}
use Rattle.comb.specs.Rows.{bend_in}
use Rattle.comb.specs.Tally.{in_all}
use Rattle.comb.specs.declared.Kind.TheVariants.{Cut}
use Rattle.comb.proofs.Columns.{cut_row_fits, takes_none, takes_all}
use Rattle.comb.proofs.Rows.{tile_rows, adds_tile}
use Rattle.comb.proofs.Tally.add_cuts.Goals as goal

pub loop-tile-init : goal.loop-tile-init
loop-tile-init c =
    let a = c.args in
    takes_none (bend_in (Cut a.full) a.rows.up.now a.rows.here.now a.rows.down.now) _ (omega arith)

pub add_tile-requires : goal.add_tile-requires
add_tile-requires c =
    let a = c.args in
    let t = c.tile.ensures in
    let x = min (256 * c.loop-tile.tile) a.width in
    let small = cut_row_fits a.full a.rows.up.now a.rows.here.now a.rows.down.now a.width x c.requires.0 (omega arith) in (
      tile_rows a.full a.rows.up.now a.rows.here.now a.rows.down.now (256 * c.loop-tile.tile) c.min-n.result t.0 t.1 t.2 c.requires.0 (omega arith),
      omega arith,
      omega (arith, small, c.loop-tile.invariant, c.requires.1),
    )

pub loop-tile-preserved : goal.loop-tile-preserved
loop-tile-preserved c =
    let a = c.args in
    let t = c.tile.ensures in
    let passed = λ (k : ℕ). in_all a.self.now + sum_over k (bend_in (Cut a.full) a.rows.up.now a.rows.here.now a.rows.down.now) in
    let from : min (256 * c.loop-tile.tile) a.width ≡ 256 * c.loop-tile.tile = omega arith in
    let to : 256 * c.loop-tile.tile + c.min-n.result ≡ min (256 * (c.loop-tile.tile + 1)) a.width = omega arith in
    adds_tile a.full a.rows.up.now a.rows.here.now a.rows.down.now (256 * c.loop-tile.tile) c.min-n.result t.0 t.1 t.2 (in_all a.self.now)
    (c.loop-tile.invariant ∙ ap passed from) c.add_tile.ensures.exact
    ∙ ap passed to

pub returns : goal.returns
returns c =
    let a = c.args in
    record {
      exact =
          takes_all (bend_in (Cut a.full) a.rows.up.now a.rows.here.now a.rows.down.now) _ (min (256 * c.loop-tile.tile) a.width) a.width
          c.loop-tile.invariant (omega arith) (omega arith);
      small = cut_row_fits a.full a.rows.up.now a.rows.here.now a.rows.down.now a.width a.width c.requires.0 (omega arith);
    }
