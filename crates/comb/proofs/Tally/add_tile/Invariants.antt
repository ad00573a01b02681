-- The loop keeps what the columns passed took, and that those ahead have room for one bend more.
use Prim.Native.Nat.{ℕ, ◌+◌, ◌*◌, ◌≤◌}
use mathlib.Core.Path.{◌≡◌}
use lib.ListN.{get_or}
use Rattle.laws.specs.Sums.{sum_over}
use Rattle.comb.specs.Rows.{bend_in}
use Rattle.comb.specs.Tally.{in_all}
use Rattle.comb.specs.declared.Kind.TheVariants.{Cut}
use Rattle.comb.proofs.Tally.add_tile.Given as goal

abbrev pub invariant-loop-x : goal.invariant-loop-x
invariant-loop-x l = record {
  exact : in_all l.self ≡ in_all l.initial.self + sum_over l.x (bend_in (Cut l.full) l.fn.rows.up.now l.fn.rows.here.now l.fn.rows.down.now);
  room : (k : ℕ) → l.x ≤ k → get_or l.self.columns k 0 + 2 * l.full ≤ l.self.most;
}
