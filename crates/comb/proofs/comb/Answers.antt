use mathlib.Core.Path.{refl}
use native.Mathlib.Omega.{arith}
use lib.ListN.{length}
use Rattle.laws.proofs.Refusal.{gives}
use Rattle.plane.specs.Claims.{AllBytes}
use Rattle.comb.proofs.Codes.{plane_narrow, plane_long, plane_total}
use Rattle.comb.proofs.comb.Goals as goal

pub rows_bend-requires : goal.rows_bend-requires
rows_bend-requires c =
    let a = c.args in
    let bytes = length a.plane.now in
    let done = c.in_ok-countable.ensures in
    rw c.from.ensures (
      plane_narrow a.width a.height a.depth a.stride bytes done,
      plane_long a.width a.height a.depth a.stride bytes done c.of_depth.ensures.0,
      c.of_depth.ensures.1,
    )

pub returns-clause-result_value_2 : goal.returns-clause-result_value_2
returns-clause-result_value_2 c =
    let all_bytes : AllBytes c.args.plane.now = λ i. omega (arith, c.type_inv.plane i) in
    let a = c.args in
    (gives c.in_ok-countable.ensures refl
    (plane_total a.plane.now all_bytes a.width a.height a.depth a.stride c.of_depth.ensures.0 (rw c.from.ensures at c.rows_bend.ensures))).1
