-- The bench cards of docs/RULES.md that are marked P, in its order: one table, `cards`, under one statement, `CardsHold`, which
-- proofs/Cards.antt proves. A card holds a number that the definitions of the crates give and the number that docs/RULES.md says. A test
-- counts as 1 where it holds and 0 where it does not; symbols and cadences have their numbers. Lists of frames are newest first. Of the cards
-- without a P those of `quantise` are proved too, in crate `colour` (`QuantiseCards`); the others are only run.
use Rattle.std.specs.Prelude.{◌≡◌, ℕ, zero, suc, ◌+◌, ◌*◌, ◌%◌, Bool, cond, List, [], ◌∷◌, nat_lt, Option, Some, None}
use Rattle.field.specs.declared.Cadence.TheVariants as cadence
use Rattle.field.specs.declared.Parity.TheVariants.{Top}
use Rattle.field.specs.Field.{cadence_number}
use Rattle.comb.specs.Comb.{plane_comb}
use Rattle.block.specs.Block.{one_if, busy}
use Rattle.pulldown.specs.declared.Symbol.{Symbol}
use Rattle.pulldown.specs.declared.Symbol.TheVariants.{Still, Moved, RepeatFirst}
use Rattle.pulldown.specs.Symbols.{symbol_number, symbol_of}
use Rattle.pulldown.specs.Table.{expected_at}
use Rattle.pulldown.specs.Lock.{locked_of, lock_of, predict_cadence}
use Rattle.telecine.specs.declared.Detector.{Detector}
use Rattle.telecine.specs.declared.Measured.{Measured}
use Rattle.telecine.specs.History.{Call, push, measured, after}

pub record Card : Type 0 where
  pub came : ℕ
  pub says : ℕ

abbrev pub card : ℕ → ℕ → Card
card came says = record { came = came; says = says }

-- a block of 16 by 8 samples whose first n, row by row, are 9, and one of zeros
abbrev pub begun : ℕ → ℕ → ℕ → ℕ
begun n x r = cond (nat_lt (16 * r + x) n) 9 0

abbrev pub blank : ℕ → ℕ → ℕ
blank x r = 0

-- whether a block of 16 by 8 samples, the first n of which differ, is busy
abbrev pub busy_with : ℕ → ℕ
busy_with n = one_if (busy (begun n) blank 16 8 0 0)

-- the symbol of counts of the two fields, which have this many blocks each
abbrev pub symbol_with : ℕ → ℕ → ℕ → ℕ
symbol_with blocks first second = symbol_number (symbol_of first blocks second)

-- a number, or another where it is 0
abbrev pub or_else : ℕ → ℕ → ℕ
or_else zero other = other
or_else (suc n) other = suc n

-- the first number from 1 to n that passes a test; 0 where none does
abbrev pub first_of : (ℕ → Bool) → ℕ → ℕ
first_of passes zero = 0
first_of passes (suc n) = or_else (first_of passes n) (cond (passes (suc n)) (suc n) 0)

-- the first n frames of the clean pattern, from a step on
abbrev pub clean : ℕ → ℕ → List (Option Symbol)
clean step zero = []
clean step (suc n) = Some (expected_at ((step + n) % 5)) ∷ clean step n

-- the frame, counted from 1, at which the clean pattern from an empty run that starts at a step locks first; 0 for none of 15
abbrev pub locks_from : ℕ → ℕ
locks_from step = first_of (λ n. locked_of (lock_of (clean step n))) 15

-- The example of "Reel file and listing" up to entry 9, as calls of the detector. Entry 0 is absent; the fields of the others have 1350 blocks
-- each, of which `first` are busy in the leading field and `second` in the trailing.
abbrev pub measured_busy : ℕ → ℕ → Option Measured
measured_busy first second = Some (record { leading = record { busy = first; total = 1350 }; trailing = record { busy = second; total = 1350 } })

abbrev pub entry : ℕ → ℕ → Call
entry first second = push (measured Top (measured_busy first second))

abbrev pub to_entry0 : List Call
to_entry0 = push (measured Top None) ∷ []

abbrev pub to_entry9 : List Call
to_entry9 =
    entry 40 40 ∷ entry 40 0 ∷ entry 40 40 ∷ entry 0 40 ∷ entry 40 40 ∷ entry 40 40 ∷ entry 40 0 ∷ entry 40 40 ∷ entry 0 40 ∷ to_entry0

-- a fresh detector after some calls, none of which lends it a store
unfoldable pub detector_after : List Call → Detector
detector_after calls = (after [] calls).detector

-- what is foretold of the frame after entry 9 that has `ahead` others before it
abbrev pub ahead_of : ℕ → ℕ
ahead_of ahead = cadence_number (predict_cadence (detector_after to_entry9).lock ahead)

unfoldable pub cards : List Card
cards =
    -- 33 of 128 differ: busy; 32: not.
    card (busy_with 33) 1
    ∷ card (busy_with 32) 0
    -- 100 blocks, counts (1,4): RepeatFirst. (2,4): Moved. (3,3): Still.
    ∷ card (symbol_with 100 1 4) (symbol_number RepeatFirst)
    ∷ card (symbol_with 100 2 4) (symbol_number Moved)
    ∷ card (symbol_with 100 3 3) (symbol_number Still)
    -- Clean pattern from an empty run starting at step 0, 1, 2, 3, 4: locks at its 11th, 10th, 9th, 13th, 12th frame.
    ∷ card (locks_from 0) 11
    ∷ card (locks_from 1) 10
    ∷ card (locks_from 2) 9
    ∷ card (locks_from 3) 13
    ∷ card (locks_from 4) 12
    -- 10, 20, 10 in one column: comb 20.
    ∷ card (plane_comb (10 ∷ 20 ∷ 10 ∷ []) 1 3 8 1) 20
    -- After entry 9, ahead 0 gives None; ahead 4 Whole.
    ∷ card (ahead_of 0) (cadence_number cadence.None)
    ∷ card (ahead_of 4) (cadence_number cadence.Whole)
    ∷ []

-- Of every card, the number that came is the one that docs/RULES.md says.
abbrev pub AllHold : List Card → Type 0
AllHold [] = Unit {0}
AllHold (c ∷ rest) = (c.came ≡ c.says) × AllHold rest

abbrev pub CardsHold : Type 0
CardsHold = AllHold cards
