-- Laws of what is held, a part of a list, and of what is asked for.
use Prim.Native.Nat.{ℕ, zero, suc, ◌+◌, ◌-◌, ◌≤◌, min}
use native.Mathlib.Nat.{zero-add, zero-sub}
use native.Mathlib.Omega.{arith}
use native.Mathlib.Numerals.{unary_clauses}
use mathlib.Core.Path.{◌≡◌, refl, sym, ap, ◌∙◌}
use mathlib.Core.Bool.{Bool, true, false, cond, ◌||◌, true≢false}
use mathlib.Core.List.{List, [], ◌∷◌, ◌++◌}
use lib.Dec.{leb, eqb}
use lib.ListN.{length, take, drop, length-take, length-drop}
use lib.Seq.{slice, paste, take-length, take-nil, drop-nil, drop-drop}
use Rattle.laws.specs.Rows.{over}
use borrow.Author.Tests.{leb-true}
use Rattle.pages.specs.declared.Ask.{Ask}
use Rattle.pages.specs.declared.Ask.TheVariants.{Unit, Read, Write, Stop}
use Rattle.pages.specs.Pages.{ask_of}

-- ---- a list of no elements

pub none : (l : List ℕ) → length l ≡ 0 → l ≡ []
none [] e = refl
none (x ∷ l) e = absurd (omega (arith, e))

-- ---- a part from one place up to another

pub length_part : (f t : ℕ) (l : List ℕ) → length (slice f t l) ≡ min t (length l) - f
length_part f t l = simp (length-drop, length-take)

pub part_is : (f t : ℕ) (l : List ℕ) → slice f t l ≡ take (t - f) (drop f l)
part_is zero t l = simp unary_clauses refl
part_is (suc f) zero l = drop-nil (suc f) ∙ ap (λ (k : ℕ). take k (drop (suc f) l)) (sym (zero-sub (suc f)))
part_is (suc f) (suc t) [] = sym (take-nil (suc t - suc f))
part_is (suc f) (suc t) (x ∷ l) = simp unary_clauses (part_is f t l)

-- so much of a list, and no more than so much of that
pub cut : (n k : ℕ) (l : List ℕ) → take n (take k l) ≡ take (min n k) l
cut zero k l = simp unary_clauses refl
cut (suc n) zero l = simp unary_clauses refl
cut (suc n) (suc k) [] = sym (take-nil (min (suc n) (suc k)))
cut (suc n) (suc k) (x ∷ l) = simp unary_clauses (ap (λ (rest : List ℕ). x ∷ rest) (cut n k l))

-- what is held is as many bytes as it has from its place on
pub whole : (f t : ℕ) (l : List ℕ) → slice f t l ≡ take (length (slice f t l)) (drop f l)
whole f t l =
    let few : min (length (take (t - f) (drop f l))) (t - f) ≡ length (take (t - f) (drop f l)) = omega (arith, length-take (t - f) (drop f l)) in
    part_is f t l
    ∙ sym (take-length (take (t - f) (drop f l)))
    ∙ cut (length (take (t - f) (drop f l))) (t - f) (drop f l)
    ∙ ap (λ (n : ℕ). take n (drop f l)) few
    ∙ ap (λ (part : List ℕ). take (length part) (drop f l)) (sym (part_is f t l))

-- what is held starts where it is said to, or has no byte
same_part : (f t : ℕ) (l : List ℕ) {start : ℕ} → start ≡ min f (min t (length l)) → (n : ℕ) → length (slice f t l) ≡ n → take n (drop start l) ≡ slice f t l
same_part f t l s zero e = sym (none (slice f t l) e)
same_part f t l s (suc n) e =
    let from : min f (min t (length l)) ≡ f = omega (arith, length_part f t l) in
    ap (λ (k : ℕ). take (suc n) (drop k l)) (s ∙ from) ∙ ap (λ (k : ℕ). take k (drop f l)) (sym e) ∙ sym (whole f t l)

-- what is held, moved to the front
pub fronted : (f t : ℕ) (l : List ℕ) {start end : ℕ} → end ≡ min t (length l) → start ≡ min f end
    → paste l 0 (drop start l) (end - start) ≡ over (slice f t l) l
fronted f t l {start} {end} e s =
    let held : length (slice f t l) ≡ end - start = omega (arith, length_part f t l) in
    let part : take (end - start) (drop start l) ≡ slice f t l = same_part f t l (s ∙ ap (min f) e) (end - start) held in
    ap (λ (k : ℕ). take (end - start) (drop start l) ++ drop k l) (zero-add (end - start) ∙ sym held)
    ∙ ap (λ (front : List ℕ). front ++ drop (length (slice f t l)) l) part

-- a list of at most k has no more than k taken off
fewer : (n k : ℕ) (l : List ℕ) → length l ≤ k → drop (min n k) l ≡ drop n l
fewer zero k l h = simp unary_clauses refl
fewer (suc n) k [] h = drop-nil (min (suc n) k)
fewer (suc n) zero (x ∷ l) h = absurd (omega (arith, h))
fewer (suc n) (suc k) (x ∷ l) h = simp unary_clauses (fewer n k l (omega (arith, h)))

-- what is left of what is held after n
pub left : (f t n : ℕ) (l : List ℕ) → slice (f + min n (t - f)) t l ≡ drop n (slice f t l)
left f t n l = sym (drop-drop (min n (t - f)) f (take t l)) ∙ fewer n (t - f) (slice f t l) (rw length_part (omega arith))

-- ---- a unit is asked for only where the page has room for it

abbrev is_unit : Ask → Bool
is_unit Unit = true
is_unit (Read from) = false
is_unit (Write n) = false
is_unit Stop = false

no_unit : (a : Ask) → is_unit a ≡ false → a ≡ Unit → ⊥
no_unit a f e = true≢false (ap is_unit (sym e) ∙ f)

roomy : (done empty room ready : Bool) (have used : ℕ) → cond done (cond empty Stop (Write used)) (cond room (cond ready Unit (Read have)) (Write used)) ≡ Unit
    → room ≡ true
roomy done empty true ready have used e = refl
roomy true true false ready have used e = absurd (no_unit Stop refl e)
roomy true false false ready have used e = absurd (no_unit (Write used) refl e)
roomy false empty false ready have used e = absurd (no_unit (Write used) refl e)

pub unit_room : (have : ℕ) (ended : Bool) (want used most page : ℕ) → ask_of have ended want used most page ≡ Unit → used + most ≤ page
unfolding ask_of
unit_room have ended want used most page e =
    leb-true (used + most) page (roomy (eqb want 0) (eqb used 0) (leb (used + most) page) (ended || leb want have) have used e)
