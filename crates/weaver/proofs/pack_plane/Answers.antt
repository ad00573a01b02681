-- The loop keeps `Stacked` of the rows passed.
use Prim.Native.Nat.{ℕ, ◌*◌}
use mathlib.Core.Path.{refl, ap, ◌∙◌}
use native.Mathlib.Omega.{arith}
use Rattle.copy.proofs.Copied.{copied_part}
use Rattle.plane.specs.Plane.{sample_bytes}
use Rattle.weaver.specs.declared.Size.{Size}
use Rattle.weaver.proofs.Packed.{turn_ends, no_row, one_row, all_rows}
use Rattle.weaver.proofs.pack_plane.Goals as goal

abbrev row : Size → ℕ
row s = s.width * sample_bytes s.depth

pub loop-y-init : goal.loop-y-init
loop-y-init c = no_row _ _ _ c.requires (c.row_bytes-n.ensures.0 ∙ ap row c.of.ensures) c.from-y-end.ensures

pub overflow_mul-at : goal.overflow_mul-at
overflow_mul-at c = omega (arith, turn_ends _ _ _ c.requires (c.row_bytes-n.ensures.0 ∙ ap row c.of.ensures) c.from-y-end.ensures c.loop-y.y c.loop-y.invariant c.loop-y-test.true refl)

pub overflow_mul-from : goal.overflow_mul-from
overflow_mul-from c = omega (arith, turn_ends _ _ _ c.requires (c.row_bytes-n.ensures.0 ∙ ap row c.of.ensures) c.from-y-end.ensures c.loop-y.y c.loop-y.invariant c.loop-y-test.true refl)

pub overflow_add-at : goal.overflow_add-at
overflow_add-at c = omega (arith, turn_ends _ _ _ c.requires (c.row_bytes-n.ensures.0 ∙ ap row c.of.ensures) c.from-y-end.ensures c.loop-y.y c.loop-y.invariant c.loop-y-test.true refl)

pub slice_bounds-copy_front-end : goal.slice_bounds-copy_front-end
slice_bounds-copy_front-end c = omega (arith, turn_ends _ _ _ c.requires (c.row_bytes-n.ensures.0 ∙ ap row c.of.ensures) c.from-y-end.ensures c.loop-y.y c.loop-y.invariant c.loop-y-test.true refl)

pub overflow_add-from : goal.overflow_add-from
overflow_add-from c = omega (arith, turn_ends _ _ _ c.requires (c.row_bytes-n.ensures.0 ∙ ap row c.of.ensures) c.from-y-end.ensures c.loop-y.y c.loop-y.invariant c.loop-y-test.true refl)

pub slice_bounds-copy_front-end-in-loop-y : goal.slice_bounds-copy_front-end-in-loop-y
slice_bounds-copy_front-end-in-loop-y c = omega (arith, turn_ends _ _ _ c.requires (c.row_bytes-n.ensures.0 ∙ ap row c.of.ensures) c.from-y-end.ensures c.loop-y.y c.loop-y.invariant c.loop-y-test.true refl)

pub loop-y-preserved : goal.loop-y-preserved
loop-y-preserved c =
    let ends = turn_ends _ _ _ c.requires (c.row_bytes-n.ensures.0 ∙ ap row c.of.ensures) c.from-y-end.ensures c.loop-y.y c.loop-y.invariant c.loop-y-test.true refl in
    one_row _ _ _ c.requires (c.row_bytes-n.ensures.0 ∙ ap row c.of.ensures) c.from-y-end.ensures c.loop-y.y c.loop-y.invariant c.loop-y-test.true refl (c.copy_front.ensures ∙ copied_part c.loop-y.part c.args.plane.now _ _ c.row_bytes-n.result ends.0 ends.1)

pub returns : goal.returns
returns c = all_rows _ _ _ c.requires (c.row_bytes-n.ensures.0 ∙ ap row c.of.ensures) c.from-y-end.ensures c.loop-y.y c.loop-y.invariant c.loop-y-test.false refl
