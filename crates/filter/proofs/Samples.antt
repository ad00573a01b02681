-- A sample by the row that it stands in.
use mathlib.Core.Path.{◌≡◌, sym}
use mathlib.Core.Bool.{true, false, true≢false}
use borrow.Author.Tests.{eq-eqb, ne_eqb}
use lib.IntN.{ℤ}
use Rattle.plane.specs.Coordinates.{parity_of}
use Rattle.filter.specs.declared.Quality.{Quality}
use Rattle.filter.specs.declared.Quality.TheVariants.{Weave, Bob, Yadif, Bwdif}
use Rattle.filter.specs.declared.Rows.{Rows}
use Rattle.filter.specs.Rows.{weaves}
use Rattle.filter.specs.Filter.{Sampler, made_of, sample_of}

module _ (rows : Rows) (before cur after : Sampler) (x y : ℤ) where
  -- Weave takes the mate's rows from before,
  pub woven_mate : (quality : Quality) → weaves quality ≡ true → parity_of y ≡ rows.mate → sample_of quality rows before cur after x y ≡ before x y
  unfolding sample_of
  woven_mate Weave w h = simp (eq-eqb (parity_of y) rows.mate h)
  woven_mate Bob w h = absurd (true≢false (sym w))
  woven_mate Yadif w h = absurd (true≢false (sym w))
  woven_mate Bwdif w h = absurd (true≢false (sym w))

  -- and the others from cur.
  pub woven_own : (quality : Quality) → weaves quality ≡ true → (parity_of y ≡ rows.mate → ⊥) → sample_of quality rows before cur after x y ≡ cur x y
  unfolding sample_of
  woven_own Weave w h = simp (ne_eqb (parity_of y) rows.mate h)
  woven_own Bob w h = absurd (true≢false (sym w))
  woven_own Yadif w h = absurd (true≢false (sym w))
  woven_own Bwdif w h = absurd (true≢false (sym w))

  -- The other qualities take the shown rows from cur,
  pub shown_own : (quality : Quality) → weaves quality ≡ false → parity_of y ≡ rows.first → sample_of quality rows before cur after x y ≡ cur x y
  unfolding sample_of
  shown_own Weave w h = absurd (true≢false w)
  shown_own Bob w h = simp (eq-eqb (parity_of y) rows.first h)
  shown_own Yadif w h = simp (eq-eqb (parity_of y) rows.first h)
  shown_own Bwdif w h = simp (eq-eqb (parity_of y) rows.first h)

  -- and make the others.
  pub missing_made :
      (quality : Quality) →
      weaves quality ≡ false →
      (parity_of y ≡ rows.first → ⊥) →
      sample_of quality rows before cur after x y ≡ made_of quality before cur after x y
  unfolding sample_of
  missing_made Weave w h = absurd (true≢false w)
  missing_made Bob w h = simp (ne_eqb (parity_of y) rows.first h)
  missing_made Yadif w h = simp (ne_eqb (parity_of y) rows.first h)
  missing_made Bwdif w h = simp (ne_eqb (parity_of y) rows.first h)
