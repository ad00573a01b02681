-- The claims of specs/Claims.antt.
use Prim.Native.Nat.{ℕ, ◌+◌, ◌-◌, ◌*◌, ◌/◌, ◌%◌, ◌^◌, ◌≤◌, ◌<◌, min, max}
use mathlib.Core.Path.{◌≡◌, refl, ap, ap₂, ◌∙◌}
use mathlib.Core.List.{List}
use native.Mathlib.Nat.{mod-eq_of_lt}
use native.Mathlib.Omega.{arith}
use lib.Dec.{ltb}
use lib.ListN.{length, drop, get_or-append}
use borrow.Author.Tests.{le-ltb}
use Rattle.laws.specs.Refusal.{rising}
use Rattle.laws.specs.Rows.{listed, over}
use Rattle.laws.specs.Sums.{apart}
use Rattle.laws.proofs.Claims.{lowest_says}
use Rattle.laws.proofs.Sums.{same_terms, sum_of_zeros}
use Rattle.laws.proofs.Lists.{length_listed, same_listed, listed_at, same_laid, length_laid, laid_at}
use Rattle.plane.specs.declared.Shape.{Shape}
use Rattle.plane.specs.Plane.{code_of}
use Rattle.plane.proofs.Claims.{code_within_depth, word_above_is_full}
use Rattle.block.specs.Block.{kept_of, kept_frame, stored_of, field_of, rows_of, one_if, differs, columns_in, rows_in, differing, busy, blocks_across, bands_down, busy_of, busy_field}
use Rattle.block.specs.Answer.{count_tests, keep_tests}
use Rattle.block.specs.Claims.{CountSays, KeepSays, KeptIsUpper, AboveIsKeptFull, CodesSettle, KeptReadsBack, SamplesSettle, NearIsQuiet, SameFrameIsQuiet, KeptFrameIsQuiet}
use Rattle.block.proofs.Rows.{frame_within, upper_fits, upper_full}

pub count_says : CountSays
unfolding rising
count_says s bytes room = lowest_says (count_tests s bytes room) tt

pub keep_says : KeepSays
unfolding rising
keep_says s bytes room = lowest_says (keep_tests s bytes room) tt

pub kept_is_upper : KeptIsUpper
unfolding kept_of
kept_is_upper bytes s x y = mod-eq_of_lt (upper_fits (code_of bytes s x y) s.depth (code_within_depth bytes s x y))

pub above_is_kept_full : AboveIsKeptFull
above_is_kept_full bytes s x y high above =
    let held = max 8 (min s.depth 16) in
    let least : 8 ≤ held = omega arith in
    let right : s.depth - 8 ≡ held - 8 = omega arith in
    kept_is_upper bytes s x y ∙ (λ i. word_above_is_full bytes s x y above i / 2 ^ right i) ∙ upper_full held least

pub kept_reads_back : KeptReadsBack
unfolding kept_frame
kept_reads_back bytes s store x y h k =
    let row : ℕ → List ℕ = λ y. listed s.width (λ x. kept_of bytes s x y) in
    let wide : (y : ℕ) → length (row y) ≡ s.width = λ y. length_listed s.width (λ x. kept_of bytes s x y) in
    let inner : y * s.width + x < length (kept_frame bytes s) =
    rw (length_laid row s.width wide s.height) (omega (arith, frame_within s.width s.height y k)) in
    get_or-append (kept_frame bytes s) (drop (length (kept_frame bytes s)) store) 0 (y * s.width + x) inner
    ∙ laid_at row s.width wide s.height x y 0 h k
    ∙ listed_at s.width (λ x. kept_of bytes s x y) x 0 h

pub samples_settle : SamplesSettle
unfolding busy_of busy differing
samples_settle new old new' old' width rows p q =
    same_terms (bands_down rows) _ _
    (λ k i.
    same_terms (blocks_across width) _ _
    (λ b j.
    ap (λ (n : ℕ). one_if (ltb (columns_in width b * rows_in rows k) (4 * n)))
    (same_terms (rows_in rows k) _ _
    (λ r l.
    same_terms (columns_in width b) _ _
    (λ x m.
    ap₂ (λ (u v : ℕ). one_if (differs u v))
    (p (16 * b + x) (8 * k + r) (omega arith) (omega arith))
    (q (16 * b + x) (8 * k + r) (omega arith) (omega arith)))))))

near_sample : (a b : ℕ) → apart a b ≤ 8 → one_if (differs a b) ≡ 0
near_sample a b h = simp (le-ltb 8 (apart a b) h)

module _ (new old : ℕ → ℕ → ℕ) (width rows : ℕ) (near : (x r : ℕ) → x < width → r < rows → apart (new x r) (old x r) ≤ 8) where
  quiet_block : (b k : ℕ) → differing new old width rows b k ≡ 0
  unfolding differing
  quiet_block b k =
      sum_of_zeros (rows_in rows k) _
      (λ r l.
      sum_of_zeros (columns_in width b) _
      (λ x m. near_sample (new (16 * b + x) (8 * k + r)) (old (16 * b + x) (8 * k + r)) (near (16 * b + x) (8 * k + r) (omega arith) (omega arith))))

  not_busy : (b k : ℕ) → one_if (busy new old width rows b k) ≡ 0
  unfolding busy
  not_busy b k = simp (quiet_block b k, le-ltb (columns_in width b * rows_in rows k) 0 (omega arith))

-- of one code one sample is kept
kept_alike :
    (bytes bytes' : List ℕ) (s : Shape) → ((x y : ℕ) → x < s.width → y < s.height → code_of bytes s x y ≡ code_of bytes' s x y) →
    (x y : ℕ) → x < s.width → y < s.height → kept_of bytes s x y ≡ kept_of bytes' s x y
unfolding kept_of
kept_alike bytes bytes' s same x y l m = ap (λ (code : ℕ). code / 2 ^ (s.depth - 8) % 256) (same x y l m)

pub codes_settle : CodesSettle
unfolding kept_frame busy_field
codes_settle bytes bytes' s store parity h same =
    let alike = kept_alike bytes bytes' s same in
    let kept = field_of (stored_of store s.width) parity in (
      same_laid s.height _ _ (λ y m. same_listed s.width _ _ (λ x l. alike x y l m)),
      samples_settle (field_of (kept_of bytes s) parity) kept (field_of (kept_of bytes' s) parity) kept s.width (rows_of s.height parity)
          (λ x r l m. alike x (2 * r + parity) l (omega arith))
          (λ x r l m. refl),
    )

pub near_is_quiet : NearIsQuiet
unfolding busy_of
near_is_quiet new old width rows near =
    sum_of_zeros (bands_down rows) _ (λ k l. sum_of_zeros (blocks_across width) _ (λ b m. not_busy new old width rows near b k))

pub same_frame_is_quiet : SameFrameIsQuiet
same_frame_is_quiet frame width rows = near_is_quiet frame frame width rows (λ x r l m. omega arith)

pub kept_frame_is_quiet : KeptFrameIsQuiet
unfolding busy_field
kept_frame_is_quiet bytes s store parity h =
    let new = field_of (kept_of bytes s) parity in
    samples_settle new (field_of (stored_of (over (kept_frame bytes s) store) s.width) parity) new new s.width (rows_of s.height parity)
    (λ x r l m. refl)
    (λ x r l m. kept_reads_back bytes s store x (2 * r + parity) l (omega arith))
    ∙ same_frame_is_quiet new s.width (rows_of s.height parity)
