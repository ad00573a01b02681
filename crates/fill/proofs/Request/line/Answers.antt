use mathlib.Core.Path.{sym, ◌∙◌}
use native.Mathlib.Omega.{arith}
use lib.IntN.{pos}
use Rattle.laws.proofs.Lists.{fill_starts, fill_ends}
use Rattle.fill.specs.Lines.{sample_for}
use Rattle.fill.proofs.Tiles.{tile_within, tile_more}
use Rattle.fill.proofs.Request.line.Goals as goal

pub loop-x-init : goal.loop-x-init
loop-x-init c = (fill_starts, c.requires.y_lt_height.2)

pub overflow_add-x : goal.overflow_add-x
overflow_add-x c =
    omega (arith, c.loop-x-test.true, c.loop-x.invariant.0.long, c.requires.y_lt_height.1, c.requires.all_lent.cur_lent.width_most)

pub overflow_add-left : goal.overflow_add-left
overflow_add-left c =
    omega (arith, c.loop-x-test.true, c.loop-x.invariant.0.long, c.requires.y_lt_height.1, c.requires.all_lent.cur_lent.width_most)

pub tile-requires : goal.tile-requires
tile-requires c =
    let long = c.loop-x.invariant.0.long in
    record {
      all_lent = c.requires.all_lent;
      tiled = (
        tile_within c.args.left c.loop-x.out c.requires.y_lt_height.0 c.loop-x-test.true (omega arith) (omega (arith, long, c.requires.y_lt_height.1)),
        c.loop-x.invariant.1,
      );
    }

pub loop-x-smaller : goal.loop-x-smaller
loop-x-smaller c = omega (arith, c.loop-x-test.true, c.loop-x.invariant.0.long)

pub loop-x-preserved : goal.loop-x-preserved
loop-x-preserved c =
    let a = c.args in
    let e = c.tile.ensures in (
      tile_more (λ x. sample_for a.self (pos x) (pos a.y)) a.left c.loop-x.x _ c.loop-x.invariant.0
          (omega (arith, c.loop-x-test.true)) (omega (arith, c.loop-x.invariant.0.long)) e.out_after,
      e.rows_len,
    )

pub shape_of-out : goal.shape_of-out
shape_of-out c = c.loop-x.invariant.0.long

pub shape_of-rows : goal.shape_of-rows
shape_of-rows c = c.loop-x.invariant.1 ∙ sym c.requires.y_lt_height.2

pub returns : goal.returns
returns c =
    record { out_after = fill_ends c.loop-x.invariant.0 (omega arith); rows_len = c.loop-x.invariant.1 }
