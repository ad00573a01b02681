use native.Mathlib.Omega.{arith}
use lib.IntN.{pos}
use Rattle.fill.proofs.Expanded.{under_more, around_stays, held_here}
use Rattle.fill.proofs.Source.trio.Goals as goal

pub returns : goal.returns
returns c =
    let a = c.args in
    let tiled = c.requires.tiled.0 in
    let near = c.around.ensures in
    let mid = c.expand.ensures in record {
      trio = record {
        near = around_stays mid.under tiled.few (omega arith) near.around;
        mid = mid.row_of (pos a.y) (held_here a.self.shape.height a.y tiled.row);
      };
      under = under_more mid.under near.under (omega arith);
    }
