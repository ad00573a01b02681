-- How the code holds the numbers of `specs/Filter.antt` that may be negative: as natural numbers, a coordinate from -65,544 on
-- (`unbiased`, of `plane`), a slant and the k of a score from -2 on.
use Rattle.std.specs.Prelude.{ℕ, ◌≤◌, ℤ}
use Rattle.std.proofs.Math.IntN.{sub_ℕ}
use Rattle.filter.specs.declared.Best.{Best}
use Rattle.filter.specs.declared.Lent.{Lent}
use Rattle.filter.specs.declared.Planes.{Planes}
use Rattle.plane.specs.Plane.{value_of}
use Rattle.filter.specs.Filter.{Sampler, Slant}

-- a held coordinate that leaves room for every offset: of a coordinate within reach it is 8 or more
pub record Room (c : ℕ) : Type 0 where
  pub low : 8 ≤ c
  pub high : c ≤ 131080

-- the slant, or the k, that is held as n
abbrev pub step : ℕ → ℤ
step n = sub_ℕ n 2

abbrev pub seen : Best → Slant
seen best = record { by = step best.slant; score = best.score }

-- what is read of a lent plane, and of three
abbrev pub value_in : Lent → Sampler
value_in lent = value_of lent.bytes.now lent.shape

abbrev pub of_lent : {A : Type 0} → (Sampler → Sampler → Sampler → A) → Planes → A
of_lent read planes = read (value_in planes.before) (value_in planes.cur) (value_in planes.after)
