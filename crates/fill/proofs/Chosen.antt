-- Which row a tile is made from: the definition of a sample, by whether cur's own row is kept.
use mathlib.Core.Path.{◌≡◌, sym, ◌∙◌, ap}
use mathlib.Core.Bool.{Bool, true, false}
use mathlib.Core.List.{List}
use Prim.Native.Nat.{ℕ, ◌+◌, ◌%◌}
use borrow.Author.Tests.{not-true, not-false}
use lib.Dec.{eqb}
use lib.IntN.{ℤ, pos}
use lib.Ieee.{Float}
use Rattle.laws.specs.Rows.{listed}
use Rattle.laws.proofs.Lists.{same_listed}
use Rattle.plane.specs.Coordinates.{parity_of}
use Rattle.filter.specs.declared.Quality.{Quality}
use Rattle.filter.specs.declared.Quality.TheVariants.{Weave, Bob, Yadif, Bwdif}
use Rattle.filter.specs.declared.Rows.{Rows}
use Rattle.filter.specs.Filter.{Sampler, bob_of, yadif_of, bwdif_of, made_of, sample_of}
use Rattle.fill.specs.Lines.{kept_of}

-- what stands in a row that is not kept
abbrev pub missing_of : Quality → Sampler → Sampler → Sampler → Sampler
missing_of Weave before cur after x y = before x y
missing_of Bob before cur after x y = bob_of cur x y
missing_of Yadif before cur after x y = yadif_of before cur after x y
missing_of Bwdif before cur after x y = bwdif_of before cur after x y

module _ (rows : Rows) (before cur after : Sampler) where
  abbrev kept : Quality → ℕ → Bool
  kept quality p = kept_of quality (eqb p rows.mate) (eqb p rows.first)

  kept_same : (quality : Quality) (x y : ℤ) → kept quality (parity_of y) ≡ true → cur x y ≡ sample_of quality rows before cur after x y
  unfolding sample_of
  kept_same Weave x y h = simp (not-true (eqb (parity_of y) rows.mate) h)
  kept_same Bob x y h = simp h
  kept_same Yadif x y h = simp h
  kept_same Bwdif x y h = simp h

  missing_same : (quality : Quality) (x y : ℤ) → kept quality (parity_of y) ≡ false → missing_of quality before cur after x y ≡ sample_of quality rows before cur after x y
  unfolding sample_of made_of
  missing_same Weave x y h = simp (not-false (eqb (parity_of y) rows.mate) h)
  missing_same Bob x y h = simp h
  missing_same Yadif x y h = simp h
  missing_same Bwdif x y h = simp h

  -- the same of a whole tile
  module _ (quality : Quality) (from count y : ℕ) where
    abbrev sampled : List Float
    sampled = listed count (λ x. sample_of quality rows before cur after (pos (from + x)) (pos y))

    pub tile_kept : {tile : List Float} → kept quality (y % 2) ≡ true → tile ≡ listed count (λ x. cur (pos (from + x)) (pos y)) → tile ≡ sampled
    tile_kept h e = e ∙ same_listed count _ _ (λ x l. kept_same quality (pos (from + x)) (pos y) h)

    pub tile_missing :
        {tile : List Float} (known : Quality) → quality ≡ known → kept quality (y % 2) ≡ false →
        tile ≡ listed count (λ x. missing_of known before cur after (pos (from + x)) (pos y)) → tile ≡ sampled
    tile_missing known q h e =
        e
        ∙ same_listed count _ _
        (λ x l. ap (λ (r : Quality). missing_of r before cur after (pos (from + x)) (pos y)) (sym q) ∙ missing_same quality (pos (from + x)) (pos y) h)
