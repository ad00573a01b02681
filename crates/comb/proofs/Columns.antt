-- Laws of tallies: what a tile adds to one, and that it is the sum of what went into it.
use Prim.Native.Nat.{ℕ, zero, suc, ◌+◌, ◌*◌, ◌^◌, ◌≤◌, ◌<◌}
use mathlib.Core.Path.{◌≡◌, refl, sym, ap, ◌∙◌}
use mathlib.Core.List.{List}
use native.Mathlib.Decide.{ℕ_discrete}
use native.Mathlib.Nat.{le_antisymm}
use native.Mathlib.Omega.{arith}
use lib.ListN.{length, get_or, set, replicate}
use lib.Seq.{get_or-set_same, get_or-set_other}
use Rattle.laws.specs.Sums.{sum_over, apart}
use Rattle.laws.proofs.Sums.{same_terms, one_more, sum_at_most, sum_of_zeros, Summed, adds}
use Rattle.comb.specs.declared.Kind.TheVariants.{Cut}
use Rattle.comb.specs.Rows.{code_in, bend_in, Rows}

-- ---- how large bends are
-- a bend of codes none of which is above `full`
pub bend_at_most : {a b c full r : ℕ} → r ≡ apart (2 * b) (a + c) → a ≤ full → b ≤ full → c ≤ full → r ≤ 2 * full
bend_at_most e u h d = omega arith

pub cut_bend_at_most : (full : ℕ) (up here down : List ℕ) (x : ℕ) → bend_in (Cut full) up here down x ≤ 2 * full
cut_bend_at_most full up here down x =
    bend_at_most {a = code_in (Cut full) up x} {b = code_in (Cut full) here x} {c = code_in (Cut full) down x} refl (omega arith) (omega arith) (omega arith)

-- those of a row's first columns add up to less than 2 ^ 32
pub cut_row_fits :
    (full : ℕ) (up here down : List ℕ) (width x : ℕ) → Rows (Cut full) width up here down → x ≤ width →
    sum_over x (bend_in (Cut full) up here down) < 2 ^ 32
cut_row_fits full up here down width x r w =
    let all : sum_over x (bend_in (Cut full) up here down) ≤ x * 65535 =
    sum_at_most x 65535 (bend_in (Cut full) up here down) (λ k l. omega (arith, cut_bend_at_most full up here down k, r.low)) in
    omega (arith, all, r.narrow)

-- ---- columns
-- ones that are all 0
pub fresh_at : (n x : ℕ) → ◌≡◌ {A = ℕ} (get_or (replicate n 0) x 0) 0
fresh_at zero x = refl
fresh_at (suc n) zero = refl
fresh_at (suc n) (suc x) = fresh_at n x

pub zeros_of : (n : ℕ) {columns : List ℕ} → columns ≡ replicate n 0 → (x : ℕ) → get_or columns x 0 ≡ 0
zeros_of n e x = ap (λ (l : List ℕ). get_or l x 0) e ∙ fresh_at n x

pub nothing_in : (total : ℕ) (columns : List ℕ) → ((x : ℕ) → get_or columns x 0 ≡ 0) → total + sum_over 256 (λ x. get_or columns x 0) ≡ total
nothing_in total columns zeros = omega (arith, sum_of_zeros 256 (λ x. get_or columns x 0) (λ x l. zeros x))

-- one of which column x grew by v
module _ (columns : List ℕ) (x v : ℕ) (inside : x < length columns) where
  abbrev grown : List ℕ
  grown = set columns x (get_or columns x 0 + v)

  pub grown_at : get_or grown x 0 ≡ get_or columns x 0 + v
  grown_at = get_or-set_same columns x (get_or columns x 0 + v) 0 inside

  pub same_at : (k : ℕ) → (k ≡ x → ⊥) → get_or grown k 0 ≡ get_or columns k 0
  same_at k other = rw get_or-set_other refl

  pub grown_sum : (n : ℕ) → x < n → sum_over n (λ k. get_or grown k 0) ≡ sum_over n (λ k. get_or columns k 0) + v
  unfolding sum_over
  grown_sum zero h = absurd (omega arith)
  grown_sum (suc n) h = last (ℕ_discrete x n) (grown_sum n)
    where
      last :
          Dec (x ≡ n) → (x < n → sum_over n (λ k. get_or grown k 0) ≡ sum_over n (λ k. get_or columns k 0) + v) →
          sum_over n (λ k. get_or grown k 0) + get_or grown n 0 ≡ sum_over n (λ k. get_or columns k 0) + get_or columns n 0 + v
      last (yes e) earlier =
          omega (
            arith,
            same_terms n (λ k. get_or grown k 0) (λ k. get_or columns k 0) (λ k m. same_at k (λ q. absurd (omega (arith, m, q, e)))),
            ap (λ (k : ℕ). get_or grown k 0) e,
            grown_at,
            ap (λ (k : ℕ). get_or columns k 0) e,
          )
      last (no e) earlier =
          let below : x < n = omega (arith, e) in
          omega (arith, earlier below, same_at n (λ q. e (sym q)))

-- ---- a tally that takes f 0, f 1, ..
no_terms : (f : ℕ → ℕ) → sum_over 0 f ≡ 0
unfolding sum_over
no_terms f = refl

pub takes_none : (f : ℕ → ℕ) (held : ℕ) {x : ℕ} → x ≡ 0 → held ≡ held + sum_over x f
takes_none f held e = omega (arith, ap (λ (k : ℕ). sum_over k f) e, no_terms f)

-- into its columns
pub takes_bend :
    (f : ℕ → ℕ) (total : ℕ) (columns : List ℕ) (start x v : ℕ) → x < length columns → length columns ≡ 256 → v ≡ f x →
    total + sum_over 256 (λ k. get_or columns k 0) ≡ start + sum_over x f →
    total + sum_over 256 (λ k. get_or (set columns x (get_or columns x 0 + v)) k 0) ≡ start + sum_over (x + 1) f
takes_bend f total columns start x v inside long e h = omega (arith, grown_sum columns x v inside 256 (omega arith), one_more x f)

pub takes_all : (f : ℕ → ℕ) (start x n : ℕ) {held : ℕ} → held ≡ start + sum_over x f → x ≤ n → n ≤ x → held ≡ start + sum_over n f
takes_all f start x n h l m = h ∙ ap (λ (k : ℕ). start + sum_over k f) (le_antisymm l m)

-- row after row
pub starts_empty : {most : ℕ} {f : ℕ → ℕ} {n total : ℕ} → total ≡ 0 → Summed most f n total 0
starts_empty {most} {f} e = record { within = omega arith; small = omega arith; exact = e ∙ sym (no_terms f) }

pub adds_row :
    {most : ℕ} {f : ℕ → ℕ} {n total later k : ℕ} (sum : ℕ) →
    Summed most f n total k → k < n → sum < most → sum ≡ f k → later ≡ total + sum → Summed most f n later (k + 1)
adds_row sum s l m q e =
    let a = adds s l (omega arith) q in
    record { within = a.within; small = omega (arith, a.small); exact = e ∙ a.exact }
