-- A window of fewer than eight frames agrees with no phase: two repeats of either field and four moved frames are asked of it.
use Prim.Native.Nat.{ℕ, zero, suc, ◌+◌, ◌-◌, ◌%◌, ◌<◌, ◌≤◌}
use native.Mathlib.Omega.{arith}
use mathlib.Core.Path.{◌≡◌, refl, ap}
use mathlib.Core.Logic.{⊎_elim}
use mathlib.Core.Bool.{false}
use mathlib.Core.List.{List, [], ◌∷◌}
use lib.ListN.{length}
use Rattle.pulldown.specs.declared.Symbol.{Symbol}
use Rattle.pulldown.specs.declared.Symbol.TheVariants.{Still, Moved, RepeatFirst, RepeatSecond}
use Rattle.pulldown.specs.Symbols.{one_if}
use Rattle.pulldown.specs.Runs.{Frame, how_many, agrees}
use Rattle.pulldown.specs.Lock.{window, candidate_of, locked_by}
use Rattle.laws.proofs.Bools.{known}
use Rattle.pulldown.proofs.FirstPhase.{first_none}
use Rattle.pulldown.proofs.Phases.{Agrees, agrees_from}

length_window : (ring : List ℕ) (place n held : ℕ) → length (window ring place n held) ≡ held
length_window ring place n zero = refl
length_window ring place n (suc held) = ap suc (length_window ring ((place + 14) % 15) (n - 1) held)

-- a frame counts as one of the three at most
one_kind : (s : Symbol) → one_if s RepeatFirst + one_if s RepeatSecond + one_if s Moved ≤ 1
one_kind Still = omega arith
one_kind Moved = omega arith
one_kind RepeatFirst = omega arith
one_kind RepeatSecond = omega arith

counted : (frames : List Frame) → how_many RepeatFirst frames + how_many RepeatSecond frames + how_many Moved frames ≤ length frames
counted [] = omega arith
counted (f ∷ frames) = omega (arith, one_kind f.symbol, counted frames)

none_agrees : (p : ℕ) (frames : List Frame) → length frames < 8 → agrees p frames ≡ false
none_agrees p frames h = ⊎_elim (λ e. absurd (never (agrees_from p frames e))) (λ e. e) (known (agrees p frames))
  where
    never : Agrees p frames → ⊥
    never a = omega (arith, a.firsts, a.seconds, a.moved, counted frames)

-- so none is locked by it
pub few_locked : (ring : List ℕ) (place n held : ℕ) → held < 8 → locked_by (window ring place n held) n ≡ 5
unfolding locked_by candidate_of
few_locked ring place n held h =
    let frames = window ring place n held in
    rw (first_none (λ p. agrees p frames) 5 (omega arith) (λ p k. none_agrees p frames (rw (length_window ring place n held) h)))
