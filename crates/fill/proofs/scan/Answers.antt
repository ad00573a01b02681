use Prim.Native.Nat.{◌+◌, ◌*◌, ◌≤◌}
use native.Mathlib.Nat.{lt_of_le_of_lt, mul-le-mul}
use native.Mathlib.Omega.{arith}
use lib.Dec.{lit<}
use lib.ListN.{length}
use Rattle.laws.proofs.Lists.{fill_starts, fills, fill_ends}
use Rattle.plane.specs.Plane.{sample_bytes}
use Rattle.fill.proofs.scan.Goals as goal

pub loop-x-init : goal.loop-x-init
loop-x-init c = fill_starts

pub overflow_add-from : goal.overflow_add-from
overflow_add-from c =
    let turn : c.args.from + c.loop-x.x ≤ 8192 = omega (arith, c.loop-x.invariant.long) in
    omega (arith, turn)

pub overflow_mul-step : goal.overflow_mul-step
overflow_mul-step c =
    let turn : c.args.from + c.loop-x.x ≤ 8192 = omega (arith, c.loop-x.invariant.long) in
    record { fits = lt_of_le_of_lt (mul-le-mul c.requires.dst_bound.1 (turn)) (lit< tt) }

pub overflow_add-at : goal.overflow_add-at
overflow_add-at c =
    let there : (let a = c.args in a.at + a.step * (a.from + c.loop-x.x) + sample_bytes a.depth ≤ length a.src.now) = c.requires.by_index c.loop-x.x (omega (arith, c.loop-x.invariant.long)) in
    omega (arith, there)

pub value-requires : goal.value-requires
value-requires c =
    let there : (let a = c.args in a.at + a.step * (a.from + c.loop-x.x) + sample_bytes a.depth ≤ length a.src.now) = c.requires.by_index c.loop-x.x (omega (arith, c.loop-x.invariant.long)) in
    (there, c.requires.dst_bound.2)

pub loop-x-preserved : goal.loop-x-preserved
loop-x-preserved c = fills c.loop-x.invariant (omega arith) c.value.ensures

pub shape_of-dst : goal.shape_of-dst
shape_of-dst c = c.loop-x.invariant.long

pub returns : goal.returns
returns c = fill_ends c.loop-x.invariant (omega arith)
