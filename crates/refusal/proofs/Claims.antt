-- The claims of specs/Claims.antt.
use Prim.Native.Nat.{ℕ, ◌<◌}
use mathlib.Core.Path.{◌≡◌, refl, sym, ap, ◌∙◌}
use mathlib.Core.Bool.{cond, true≢false}
use mathlib.Core.List.{List, [], ◌∷◌, nil≢cons, cons≢nil}
use native.Mathlib.Omega.{arith}
use lib.Dec.{lit<, eqb}
use Rattle.std.proofs.Common.{Ok, Err}
use Rattle.refusal.specs.declared.Refusal.{Refusal}
use Rattle.refusal.specs.declared.Refusal.TheVariants as refusal
use Rattle.refusal.specs.Refusal.{number_of}
use Rattle.refusal.specs.Claims.{NumbersTell, OneAnswered, OneDone, OneTested}

-- the refusal of a number, so that equal numbers are of equal refusals
named : ℕ → Refusal
named n =
    cond (eqb n 1) refusal.PlaneCount (
    cond (eqb n 2) refusal.OnlyLuma (
    cond (eqb n 3) refusal.Outside (
    cond (eqb n 4) refusal.Shape (
    cond (eqb n 5) refusal.Differ (
    cond (eqb n 6) refusal.ShortInput (
    cond (eqb n 7) refusal.ShortOutput (
    cond (eqb n 8) refusal.Colour (
    cond (eqb n 9) refusal.TooManyFrames (
    refusal.TooFarAhead)))))))))

named_number : (a : Refusal) → named (number_of a) ≡ a
unfolding named
named_number refusal.PlaneCount = refl
named_number refusal.OnlyLuma = refl
named_number refusal.Outside = refl
named_number refusal.Shape = refl
named_number refusal.Differ = refl
named_number refusal.ShortInput = refl
named_number refusal.ShortOutput = refl
named_number refusal.Colour = refl
named_number refusal.TooManyFrames = refl
named_number refusal.TooFarAhead = refl

positive : (a : Refusal) → 0 < number_of a
positive refusal.PlaneCount = lit< tt
positive refusal.OnlyLuma = lit< tt
positive refusal.Outside = lit< tt
positive refusal.Shape = lit< tt
positive refusal.Differ = lit< tt
positive refusal.ShortInput = lit< tt
positive refusal.ShortOutput = lit< tt
positive refusal.Colour = lit< tt
positive refusal.TooManyFrames = lit< tt
positive refusal.TooFarAhead = lit< tt

told : (a b : Refusal) → number_of a ≡ number_of b → a ≡ b
told a b e = sym (named_number a) ∙ ap named e ∙ named_number b

pub numbers_tell : NumbersTell
numbers_tell = (positive, told)

first : {A : Type 0} → A → List A → A
first a [] = a
first a (x ∷ rest) = x

pub one_answered : OneAnswered
unfolding first
one_answered A (Ok v) (Ok w) p q = ap (λ (l : List A). Ok (first v l)) q
one_answered A (Ok v) (Err r) p q = absurd (cons≢nil q)
one_answered A (Err r) (Ok w) p q = absurd (nil≢cons q)
one_answered A (Err r) (Err s) p q = ap Err (told r s p)

pub one_done : OneDone
one_done (Ok v) (Ok w) p = refl
one_done (Ok v) (Err r) p = absurd (let q = positive r in omega (arith, p, q))
one_done (Err r) (Ok w) p = absurd (let q = positive r in omega (arith, p, q))
one_done (Err r) (Err s) p = ap Err (told r s p)

pub one_tested : OneTested
one_tested t r (Ok v) (Ok w) p q = refl
one_tested t r (Ok v) (Err s) p q = absurd (true≢false (sym p ∙ q.0))
one_tested t r (Err s) (Ok w) p q = absurd (true≢false (sym q ∙ p.0))
one_tested t r (Err a) (Err b) p q = ap Err (p.1 ∙ sym q.1)
