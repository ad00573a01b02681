-- The loop keeps `Summed` of the rows passed.
use Prim.Native.Nat.{ℕ, ◌+◌, ◌*◌, ◌≤◌}
use mathlib.Core.Path.{refl, ap, ◌∙◌}
use native.Mathlib.Omega.{arith}
use lib.ListN.{length}
use Rattle.laws.specs.Sums.{sum_over}
use Rattle.laws.proofs.Sums.{ends}
use Rattle.comb.specs.Comb.{comb_of}
use Rattle.comb.specs.Rows.{bend_in}
use Rattle.comb.proofs.Columns.{starts_empty, adds_row}
use Rattle.comb.proofs.Rows.{two_below, lent_rows, lent_bends}
use Rattle.comb.proofs.rows_bend.Goals as goal

pub loop-y-init : goal.loop-y-init
loop-y-init c = starts_empty c.new-tally.ensures

pub add_row-requires : goal.add_row-requires
add_row-requires c =
    let a = c.args in
    let y = c.loop-y.y in
    let three = c.of_plane.ensures in
    let row_size = ap (λ (size : ℕ). a.width * size) c.size.ensures.0 in
    let within : y * a.stride + a.stride + a.stride + a.width * c.size.result ≤ length a.plane.now =
    omega (arith, row_size, two_below y a.height a.stride (omega arith)) in (
      lent_rows a.kind a.plane.now a.width a.stride y row_size refl three.0 three.1 three.2 c.requires.0 c.requires.2 within,
      omega (arith, c.loop-y.invariant.small),
    )

pub loop-y-preserved : goal.loop-y-preserved
loop-y-preserved c =
    let a = c.args in
    let y = c.loop-y.y in
    let rows = c.of_plane.result in
    let three = c.of_plane.ensures in
    let row_size = ap (λ (size : ℕ). a.width * size) c.size.ensures.0 in
    adds_row (sum_over a.width (bend_in a.kind rows.up.now rows.here.now rows.down.now)) c.loop-y.invariant (omega arith) c.add_row.ensures.small
    (lent_bends a.kind a.plane.now a.width a.stride y row_size refl three.0 three.1 three.2 refl)
    c.add_row.ensures.exact

pub returns : goal.returns
unfolding comb_of
returns c = c.sum.ensures ∙ ends c.loop-y.invariant (omega arith)
