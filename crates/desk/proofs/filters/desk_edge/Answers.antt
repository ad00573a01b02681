-- The layout's code is tested here, and the rest is `filter::edge`'s own answer.
use Prim.Native.Nat.{ℕ, ◌≤◌, ◌<◌}
use mathlib.Core.Path.{sym, ap, subst, ◌∙◌}
use native.Mathlib.Nat.{lt_of_le_of_lt}
use native.Mathlib.Omega.{arith}
use lib.Dec.{lit<}
use lib.IntN.{ℤ, pos, negsuc, nat_abs}
use lib.ListN.{length}
use mir.Syntax.{w32}
use mir.Val.{SFits}
use mir.Facts.{to_z-of_z}
use Rattle.std.proofs.Common.{Ok, Err}
use Rattle.laws.specs.Refusal.{written}
use Rattle.plane.specs.declared.Shape.{Shape}
use Rattle.plane.specs.Plane.{value_of}
use Rattle.filter.specs.Filter.{edge_of}
use Rattle.filter.proofs.Claims.{edge_in_reach}
use Rattle.numbers.specs.Numbers.{shape_named}
use Rattle.desk.proofs.Cut.{reads_on}
use Rattle.desk.proofs.filters.desk_edge.Goals as goal

-- a slant from -2 to 2 fits its place
small : (j : ℤ) → nat_abs j ≤ 2 → SFits w32 j
small (pos n) h = record { sfits = lt_of_le_of_lt h (lit< tt) }
small (negsuc n) h =
    let k : n < 2147483648 = omega arith in
    record { sfits = k }

pub returns-in-Ok : goal.returns-in-Ok
returns-in-Ok c =
    let a = c.args in
    let slant = edge_of (value_of a.cur.now (shape_named a.shape)) a.x a.y in
    let h =
    reads_on (λ (s : Shape). edge_of (value_of a.cur.now s)) a.shape (length a.cur.now) a.x a.y (Ok c.in-Ok.found) a.slant.now
    (sym c.if-not-is_named.ensures) c.shape_named.ensures (to_z-of_z c.ranges.x) (to_z-of_z c.ranges.y) c.in-Ok.ensures.0 c.in-Ok.ensures.1 in
    let same = h.place ∙ ap (λ (k : ℕ). written k slant a.slant.now) (sym h.number) in
    record {
      value = h.number;
      slant_after = to_z-of_z (subst (SFits w32) (sym same) (small _ (edge_in_reach (value_of a.cur.now (shape_named a.shape)) a.x a.y))) ∙ h.place;
    }

pub returns-in-Err : goal.returns-in-Err
returns-in-Err c =
    let a = c.args in
    let h =
    reads_on (λ (s : Shape). edge_of (value_of a.cur.now s)) a.shape (length a.cur.now) a.x a.y (Err c.in-Err.refusal) a.slant.now
    (sym c.if-not-is_named.ensures) c.shape_named.ensures (to_z-of_z c.ranges.x) (to_z-of_z c.ranges.y) c.in-Err.ensures.0 c.in-Err.ensures.1 in
    record { value = c.number-in-Err.ensures ∙ h.number; slant_after = h.place }
