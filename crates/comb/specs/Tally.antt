-- Bends added up in two places. No public contract cites this file.
use Rattle.std.specs.Prelude.{ℕ, ◌+◌, ◌^◌, ◌<◌, ◌≡◌, get_or}
use Rattle.laws.specs.Sums.{sum_over}
use Rattle.comb.specs.declared.Tally.{Tally}

-- what both places hold
abbrev pub in_all : Tally → ℕ
in_all t = t.total + sum_over 256 (λ x. get_or t.columns x 0)

-- a sum below 2 ^ 32 was added to what they hold
pub record Grown (old new : Tally) (sum : ℕ) : Type 0 where
  pub exact : in_all new ≡ in_all old + sum
  pub small : sum < 2 ^ 32
