-- The loop keeps `Stacked` of the rows passed.
use native.Mathlib.Omega.{arith}
use Rattle.readback.proofs.Rows.{row_room, row_ends, row_ready, no_row, one_row, all_rows}
use Rattle.readback.proofs.copy_rows.Goals as goal

pub loop-y-init : goal.loop-y-init
loop-y-init c = no_row _ _ c.requires c.kind_of-kind.ensures c.from-width.ensures c.from-height.ensures c.step_of.ensures.0 c.packed_row-size.ensures.0 _ _

pub overflow_mul-start : goal.overflow_mul-start
overflow_mul-start c = omega (arith, row_room _ _ c.requires c.kind_of-kind.ensures c.from-width.ensures c.from-height.ensures c.step_of.ensures.0 c.packed_row-size.ensures.0 c.loop-y.y c.loop-y-test.true)

pub overflow_mul-y : goal.overflow_mul-y
overflow_mul-y c = omega (arith, row_ends _ _ c.requires c.kind_of-kind.ensures c.from-width.ensures c.from-height.ensures c.step_of.ensures.0 c.packed_row-size.ensures.0 c.loop-y.y c.loop-y-test.true)

pub overflow_add-start : goal.overflow_add-start
overflow_add-start c = omega (arith, row_room _ _ c.requires c.kind_of-kind.ensures c.from-width.ensures c.from-height.ensures c.step_of.ensures.0 c.packed_row-size.ensures.0 c.loop-y.y c.loop-y-test.true)

pub slice_bounds-copy_row-end : goal.slice_bounds-copy_row-end
slice_bounds-copy_row-end c = omega (arith, row_room _ _ c.requires c.kind_of-kind.ensures c.from-width.ensures c.from-height.ensures c.step_of.ensures.0 c.packed_row-size.ensures.0 c.loop-y.y c.loop-y-test.true)

pub copy_row-requires : goal.copy_row-requires
copy_row-requires c =
    (row_ready _ _ c.requires c.kind_of-kind.ensures c.from-width.ensures c.from-height.ensures c.step_of.ensures.0 c.packed_row-size.ensures.0 _ c.loop-y.y c.loop-y-test.true c.loop-y.invariant.long c.part-row.ensures.result_value, omega (arith, c.component-lane.ensures.1), omega (arith, c.shift.ensures.1))

pub loop-y-preserved : goal.loop-y-preserved
loop-y-preserved c = one_row _ _ c.requires c.kind_of-kind.ensures c.from-width.ensures c.from-height.ensures c.step_of.ensures.0 c.packed_row-size.ensures.0 _ _ c.loop-y.y c.loop-y.invariant c.loop-y-test.true c.part-row.ensures.result_value c.copy_row.ensures

pub returns : goal.returns
returns c = all_rows _ _ c.requires c.kind_of-kind.ensures c.from-width.ensures c.from-height.ensures c.step_of.ensures.0 c.packed_row-size.ensures.0 _ _ c.component-lane.ensures.0 (cc) c.loop-y.invariant c.loop-y-test.false
