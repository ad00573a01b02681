use native.Mathlib.Omega.{arith}
use Rattle.weave.proofs.Fields.{no_line, two_lines, all_lines, ends}
use Rattle.weave.proofs.weave_plane.Goals as goal

pub loop-r-init : goal.loop-r-init
loop-r-init c = no_line _ _ _ _ c.requires.0 c.line_bytes-n.ensures.0 c.from-r-end.ensures

pub overflow_mul-even-in-loop-r : goal.overflow_mul-even-in-loop-r
overflow_mul-even-in-loop-r c =
    omega (arith, ends _ _ _ _ c.requires.0 c.line_bytes-n.ensures.0 c.from-r-end.ensures c.loop-r.r c.loop-r.invariant c.loop-r-test.true c.requires.1)

pub overflow_mul-r : goal.overflow_mul-r
overflow_mul-r c =
    omega (arith, ends _ _ _ _ c.requires.0 c.line_bytes-n.ensures.0 c.from-r-end.ensures c.loop-r.r c.loop-r.invariant c.loop-r-test.true c.requires.1)

pub copy_part-requires : goal.copy_part-requires
copy_part-requires c =
    omega (arith, ends _ _ _ _ c.requires.0 c.line_bytes-n.ensures.0 c.from-r-end.ensures c.loop-r.r c.loop-r.invariant c.loop-r-test.true c.requires.1)

pub overflow_add-even : goal.overflow_add-even
overflow_add-even c =
    omega (arith, ends _ _ _ _ c.requires.0 c.line_bytes-n.ensures.0 c.from-r-end.ensures c.loop-r.r c.loop-r.invariant c.loop-r-test.true c.requires.1)

pub overflow_mul-r-in-loop-r : goal.overflow_mul-r-in-loop-r
overflow_mul-r-in-loop-r c =
    omega (arith, ends _ _ _ _ c.requires.0 c.line_bytes-n.ensures.0 c.from-r-end.ensures c.loop-r.r c.loop-r.invariant c.loop-r-test.true c.requires.1)

pub copy_part-requires-in-loop-r : goal.copy_part-requires-in-loop-r
copy_part-requires-in-loop-r c =
    omega (arith, ends _ _ _ _ c.requires.0 c.line_bytes-n.ensures.0 c.from-r-end.ensures c.loop-r.r c.loop-r.invariant c.loop-r-test.true c.requires.1, c.copy_part.auto.dst)

pub loop-r-preserved : goal.loop-r-preserved
loop-r-preserved c =
    two_lines _ _ _ _ c.requires.0 c.line_bytes-n.ensures.0 c.from-r-end.ensures c.loop-r.r c.loop-r.invariant c.loop-r-test.true c.requires.1 c.copy_part.ensures c.copy_part-in-loop-r.ensures

pub returns : goal.returns
returns c = all_lines _ _ _ _ c.requires.0 c.line_bytes-n.ensures.0 c.from-r-end.ensures c.loop-r.r c.loop-r.invariant c.loop-r-test.false
