-- Laws of counters: what a row adds to them, and that rows after rows add up.
use Prim.Native.Nat.{ℕ, zero, suc, ◌+◌, ◌*◌, ◌≤◌, ◌<◌}
use mathlib.Core.Path.{◌≡◌, refl, ap, ap₂, ◌∙◌}
use mathlib.Core.Bool.{Bool, true, false}
use mathlib.Core.List.{List}
use native.Mathlib.Decide.{ℕ_discrete, dec_lt}
use native.Mathlib.Omega.{arith}
use lib.Dec.{ltb}
use lib.ListN.{length, take, drop, get_or, set, replicate}
use lib.Seq.{get_or-set_same, get_or-set_other}
use Rattle.laws.specs.Sums.{sum_over}
use Rattle.laws.proofs.Sums.{same_terms, one_more, sum_at_most}
use Rattle.plane.specs.declared.Shape.{Shape}
use Rattle.block.specs.Block.{kept_of, stored_of, field_of, one_if, differs, columns_in, rows_in, differing, busy, blocks_across}
use Rattle.block.specs.Rows.{KeptRow}
use Rattle.plane.specs.Plane.{good_shape}
use Rattle.plane.proofs.Bounds.{good_within}
use Rattle.block.specs.Counters.{differing_in, differing_row, band_row, busy_by, Counters, Added}
use Rattle.laws.proofs.Lists.{part_length, part_at}

-- ---- counter after counter
pub added_none : {counters : List ℕ} {more : ℕ → ℕ} → Added counters counters more 0
added_none = record { grown = λ b h. absurd (omega arith); same = λ b h. refl }

pub added_one :
    {old new : List ℕ} {more : ℕ → ℕ} {n value : ℕ} →
    Added old new more n → n < length new → value ≡ more n → Added old (set new n (get_or new n 0 + value)) more (n + 1)
added_one {old} {new} {more} {n} {value} a h e = record {
  grown = λ b below. at b below (ℕ_discrete b n);
  same = λ b above. get_or-set_other new n b (get_or new n 0 + value) 0 (λ q. omega arith) ∙ a.same b (omega arith);
}
  where
    at : (b : ℕ) → b < n + 1 → Dec (b ≡ n) → get_or (set new n (get_or new n 0 + value)) b 0 ≡ get_or old b 0 + more b
    at b below (yes q) = rw q (get_or-set_same new n (get_or new n 0 + value) 0 h ∙ ap₂ (λ (x y : ℕ). x + y) (a.same n (omega arith)) e)
    at b below (no q) = get_or-set_other new n b (get_or new n 0 + value) 0 q ∙ a.grown b (omega (arith, q))

-- ---- a row
one_at_most : (b : Bool) → one_if b ≤ 1
one_at_most true = omega arith
one_at_most false = omega arith

-- a block has at most 16 differing samples in a row
row_at_most : (bytes : List ℕ) (s : Shape) (store : List ℕ) (y b : ℕ) → differing_row bytes s store y b ≤ 16
row_at_most bytes s store y b =
    let narrow : columns_in s.width b ≤ 16 = omega arith in
    omega
    (arith, sum_at_most (columns_in s.width b) 1 _ (λ x l. one_at_most (differs (kept_of bytes s (16 * b + x) y) (stored_of store s.width (16 * b + x) y))))

rows_at_most :
    (bytes : List ℕ) (s : Shape) (store : List ℕ) (first top i b : ℕ) → sum_over i (λ k. band_row bytes s store first top k b) ≤ i * 16
rows_at_most bytes s store first top i b = sum_at_most i 16 _ (λ k l. row_at_most bytes s store (2 * (top + k) + first) b)

-- two parts of rows, cut where block b stands, have the differing samples of that block
pub part_differing :
    (new old : List ℕ) (width b : ℕ) {n : ℕ} {p q : List ℕ} →
    n ≡ columns_in width b → 16 * b + n ≤ length new → p ≡ take n (drop (16 * b) new) → q ≡ take n (drop (16 * b) old) →
    sum_over (length p) (λ x. one_if (differs (get_or p x 0) (get_or q x 0))) ≡ differing_in (λ x. get_or new x 0) (λ x. get_or old x 0) width b
part_differing new old width b {n} {p} {q} e h u v =
    ap (λ (k : ℕ). sum_over k (λ x. one_if (differs (get_or p x 0) (get_or q x 0)))) (ap length u ∙ part_length new (16 * b) n h ∙ e)
    ∙ same_terms (columns_in width b) _ _
    (λ x l. ap₂ (λ (i j : ℕ). one_if (differs i j)) (column new u x (rw e l)) (column old v x (rw e l)))
  where
    column : (row : List ℕ) {part : List ℕ} → part ≡ take n (drop (16 * b) row) → (x : ℕ) → x < n → get_or part x 0 ≡ get_or row (16 * b + x) 0
    column row cut x l = ap (λ (part : List ℕ). get_or part x 0) cut ∙ part_at row (16 * b) n x 0 l

-- a row of a picture, with its kept samples in `new`, and the row of the kept frame
pub row_added :
    (bytes : List ℕ) (s : Shape) (store : List ℕ) (y : ℕ) (new : List ℕ) {before after old : List ℕ} →
    KeptRow new bytes s y → old ≡ take s.width (drop (y * s.width) store) →
    Added before after (differing_in (λ x. get_or new x 0) (λ x. get_or old x 0) (length new)) (blocks_across (length new)) →
    Added before after (differing_row bytes s store y) (blocks_across s.width)
row_added bytes s store y new {before} {after} {old} kept part a = record {
  grown = λ b l.
      across.grown b l
      ∙ ap (λ (n : ℕ). get_or before b 0 + n) (same_terms (columns_in s.width b) _ _ (λ x k. sample (16 * b + x) (omega arith)));
  same = across.same;
}
  where
    across : Added before after (differing_in (λ x. get_or new x 0) (λ x. get_or old x 0) s.width) (blocks_across s.width)
    across = rw kept.wide at a

    stored : (x : ℕ) → x < s.width → get_or old x 0 ≡ get_or store (y * s.width + x) 0
    stored x l =
        ap (λ (row : List ℕ). get_or row x 0) part ∙ part_at store (y * s.width) s.width x 0 l

    sample :
        (x : ℕ) → x < s.width →
        one_if (differs (get_or new x 0) (get_or old x 0)) ≡ one_if (differs (kept_of bytes s x y) (get_or store (y * s.width + x) 0))
    sample x l = ap₂ (λ (i j : ℕ). one_if (differs i j)) (kept.sample x l) (stored x l)

-- ---- row after row: row k adds `more k`
module _ (more : ℕ → ℕ → ℕ) {n : ℕ} where
  pub rows_none : {counters : List ℕ} → Added counters counters (λ b. sum_over 0 (λ k. more k b)) n
  unfolding sum_over
  rows_none = record { grown = λ b l. omega arith; same = λ b l. refl }

  pub rows_one :
      {old middle new : List ℕ} {i : ℕ} →
      Added old middle (λ b. sum_over i (λ k. more k b)) n → Added middle new (more i) n → Added old new (λ b. sum_over (i + 1) (λ k. more k b)) n
  rows_one {old} {middle} {new} {i} s t = record {
    grown = λ b l. omega (arith, s.grown b l, t.grown b l, one_more i (λ k. more k b));
    same = λ b l. t.same b l ∙ s.same b l;
  }

-- ---- counters that started at 0
zero_at : (n k : ℕ) → ◌≡◌ {A = ℕ} (get_or (replicate n 0) k 0) 0
zero_at zero k = refl
zero_at (suc n) zero = refl
zero_at (suc n) (suc k) = zero_at n k

module _ (many : ℕ) {new : List ℕ} {more : ℕ → ℕ} {n : ℕ} (a : Added (replicate many 0) new more n) where
  pub counted : (b : ℕ) → b < n → get_or new b 0 ≡ more b
  counted b l = omega (arith, a.grown b l, zero_at many b)

  counted_at_most : (most : ℕ) → ((b : ℕ) → more b ≤ most) → (b : ℕ) → get_or new b 0 ≤ most
  counted_at_most most h b = either (dec_lt b n)
    where
      either : Dec (b < n) → get_or new b 0 ≤ most
      either (yes l) = omega (arith, counted b l, h b)
      either (no l) = omega (arith, a.same b (omega (arith, l)), zero_at many b)

-- counters of the first rows of a band, eight at most
pub band_ready :
    (bytes : List ℕ) (s : Shape) (store : List ℕ) (first top : ℕ) {counters : List ℕ} {i n : ℕ} → good_shape s ≡ true → i ≤ 8 → length counters ≡ 512 →
    Added (replicate 512 0) counters (λ b. sum_over i (λ k. band_row bytes s store first top k b)) n → Counters counters s.width
band_ready bytes s store first top {counters} {i} good few long added = record {
  many = long;
  low = counted_at_most 512 added 128 (λ b. omega (arith, rows_at_most bytes s store first top i b));
  narrow = (good_within s good).width_most;
}

-- the busy blocks depend on the counts alone
pub same_busy :
    (width rows : ℕ) (f g : ℕ → ℕ) → ((b : ℕ) → b < blocks_across width → f b ≡ g b) → busy_by width rows f ≡ busy_by width rows g
same_busy width rows f g h =
    same_terms (blocks_across width) _ _ (λ b l. ap (λ (n : ℕ). one_if (ltb (columns_in width b * rows) (4 * n))) (h b l))

-- ---- the busy blocks of band k of a field
abbrev pub busy_band : List ℕ → Shape → List ℕ → ℕ → ℕ → ℕ → ℕ
busy_band bytes s store first rows k =
    sum_over (blocks_across s.width)
    (λ b. one_if (busy (field_of (kept_of bytes s) first) (field_of (stored_of store s.width) first) s.width rows b k))

-- as they are counted, row after row
pub band_counted :
    (bytes : List ℕ) (s : Shape) (store : List ℕ) (first rows k : ℕ) {n count : ℕ} →
    n ≡ rows_in rows k → count ≡ busy_by s.width n (λ b. sum_over n (λ i. band_row bytes s store first (8 * k) i b)) →
    count ≡ busy_band bytes s store first rows k
unfolding busy differing
band_counted bytes s store first rows k e f =
    f ∙ ap (λ (n : ℕ). busy_by s.width n (λ b. sum_over n (λ i. band_row bytes s store first (8 * k) i b))) e
