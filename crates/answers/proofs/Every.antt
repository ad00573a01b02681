-- A test of every number below another, one after the other, and what the loops that make it end with.
use Prim.Native.Nat.{ℕ, ◌+◌, ◌*◌, ◌≤◌}
use mathlib.Core.Path.{◌≡◌, ap, ◌∙◌}
use mathlib.Core.Bool.{Bool, ◌&&◌}
use mathlib.Core.List.{List}
use native.Mathlib.Numerals.{add-one}
use lib.Dec.{eqb}
use lib.Ieee.{Float, nan}
use lib.ListN.{length, get_or}
use borrow.Author.Tests.{le-leb}
use Rattle.packed.specs.Packed.{number_at}
use Rattle.answers.specs.Record.{every, inside_of, whole_of}
use Rattle.answers.specs.Floats.{same_float, same_floats}

pub one_more : (passes : ℕ → Bool) (n : ℕ) (all one : Bool) → all ≡ every n passes → one ≡ passes n → (all && one) ≡ every (n + 1) passes
unfolding every
one_more passes n all one p q = rw (add-one, p, q)

pub whole_ends :
    (answer : List ℕ) (numbers slices j a b : ℕ) (all : Bool) → a ≡ number_at answer 2 → b ≡ number_at answer 3 →
    all ≡ every j (λ j. inside_of answer numbers j) → j ≡ slices →
    ((eqb a numbers && eqb b slices) && all) ≡ whole_of answer numbers slices
unfolding whole_of
whole_ends answer numbers slices j a b all p q r e = rw (p, q, r, e)

pub floats_more :
    (floats : List Float) (bytes : List ℕ) (i n : ℕ) (same one : Bool) →
    same ≡ every i (λ i. same_float (get_or floats i nan) (number_at bytes i)) → one ≡ same_float (get_or floats i nan) n → n ≡ number_at bytes i →
    (same && one) ≡ every (i + 1) (λ i. same_float (get_or floats i nan) (number_at bytes i))
floats_more floats bytes i n same one p q e =
    one_more (λ i. same_float (get_or floats i nan) (number_at bytes i)) i same one p (q ∙ ap (λ (n : ℕ). same_float (get_or floats i nan) n) e)

pub floats_end :
    (floats : List Float) (bytes : List ℕ) (i : ℕ) (same : Bool) → length floats ≤ 4096 →
    same ≡ every i (λ i. same_float (get_or floats i nan) (number_at bytes i)) → i ≡ length floats →
    (eqb (8 * length floats) (length bytes) && same) ≡ same_floats floats bytes
unfolding same_floats
floats_end floats bytes i same h r e = rw (r, e, le-leb (length floats) 4096 h)
