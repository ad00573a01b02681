-- The loop keeps what the columns passed took, and that those ahead have room for one bend more.
use Prim.Native.Nat.{ℕ, ◌+◌}
use mathlib.Core.Path.{refl, ap, ◌∙◌}
use native.Mathlib.Omega.{arith}
use Rattle.laws.specs.Sums.{sum_over}
use Rattle.comb.specs.Rows.{bend_in}
use Rattle.comb.specs.declared.Kind.TheVariants.{Cut}
use Rattle.comb.proofs.Columns.{same_at, takes_none, takes_bend, takes_all, cut_row_fits}
use Rattle.comb.proofs.Rows.{same_bend}
use Rattle.comb.proofs.Tally.add_tile.Goals as goal

pub loop-x-init : goal.loop-x-init
loop-x-init c = record {
  exact = takes_none (bend_in (Cut c.args.full) c.args.rows.up.now c.args.rows.here.now c.args.rows.down.now) _ refl;
  room = λ k h. omega (arith, c.make_room.new.self.up_to k, c.from-largest.ensures);
}

pub loop-x-preserved : goal.loop-x-preserved
loop-x-preserved c =
    let bends : ℕ → ℕ = bend_in (Cut c.args.full) c.args.rows.up.now c.args.rows.here.now c.args.rows.down.now in
    let t = c.loop-x.self in
    record {
      exact =
          takes_bend bends t.total t.columns _ c.loop-x.x c.low_bend.result (omega arith) (omega arith)
          (same_bend c.low_bend.ensures.0 c.cut_at.ensures.0 c.cut_at-in-loop-x.ensures.0 c.cut_at-in-loop-x-2.ensures.0)
          c.loop-x.invariant.exact;
      room =
          λ k h.
          omega (arith, same_at t.columns c.loop-x.x c.low_bend.result (omega arith) k (λ e. absurd (omega (arith, e, h))), c.loop-x.invariant.room k (omega (arith, h)));
    }

pub returns : goal.returns
returns c =
    let a = c.args in
    let bends : ℕ → ℕ = bend_in (Cut a.full) a.rows.up.now a.rows.here.now a.rows.down.now in
    record {
      exact = takes_all bends _ c.loop-x.x a.n c.loop-x.invariant.exact c.loop-x.auto.x-end c.loop-x-test.false ∙ ap (λ (k : ℕ). k + sum_over a.n bends) c.make_room.ensures.0;
      small = cut_row_fits a.full a.rows.up.now a.rows.here.now a.rows.down.now a.n a.n c.requires.0 (omega arith);
    }
