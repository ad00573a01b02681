-- The claims of specs/Claims.antt.
use Prim.Native.Nat.{ℕ, ◌+◌, ◌*◌, ◌/◌, ◌%◌, ◌<◌, ◌^◌}
use mathlib.Core.Path.{◌≡◌, ap, ◌∙◌}
use mathlib.Core.List.{List}
use native.Mathlib.Nat.{mod-eq_of_lt}
use native.Mathlib.Omega.{arith}
use lib.Dec.{lit<}
use lib.ListN.{length, get_or, drop, get_or-append}
use Rattle.laws.specs.Refusal.{rising}
use Rattle.laws.specs.Rows.{over}
use Rattle.laws.proofs.Claims.{lowest_says}
use Rattle.laws.proofs.Lists.{length_listed, listed_at, length_laid, laid_at}
use Rattle.laws.proofs.Sums.{same_terms}
use Rattle.laws.proofs.Digits.{sum_of_digits}
use Rattle.packed.specs.Packed.{eight_bytes, packed_of, number_at}
use Rattle.packed.specs.Claims.{ReadsBack, PackedSize, PackSays}

pub pack_says : PackSays
unfolding rising
pack_says numbers room = lowest_says _ tt

pub length_eight : (n : ℕ) → length (eight_bytes n) ≡ 8
unfolding eight_bytes
length_eight n = length_listed 8 _

pub packed_size : PackedSize
unfolding packed_of
packed_size numbers = length_laid (λ k. eight_bytes (get_or numbers k 0)) 8 (λ k. length_eight _) (length numbers)

-- what stands in byte i of number k
byte_of : (n i : ℕ) → i < 8 → get_or (eight_bytes n) i 0 ≡ n / 256 ^ i % 256
unfolding eight_bytes
byte_of n i l = listed_at 8 _ i 0 l

packed_byte : (numbers : List ℕ) (k i : ℕ) → k < length numbers → i < 8 → get_or (packed_of numbers) (k * 8 + i) 0 ≡ get_or numbers k 0 / 256 ^ i % 256
unfolding packed_of
packed_byte numbers k i h l =
    laid_at (λ k. eight_bytes (get_or numbers k 0)) 8 (λ k. length_eight _) (length numbers) i k 0 l h
    ∙ byte_of (get_or numbers k 0) i l

over_byte :
    (numbers old : List ℕ) (k i : ℕ) → k < length numbers → i < 8 →
    get_or (over (packed_of numbers) old) (8 * k + i) 0 ≡ get_or numbers k 0 / 256 ^ i % 256
over_byte numbers old k i h l =
    let place : 8 * k + i ≡ k * 8 + i = omega arith in
    let inner : k * 8 + i < length (packed_of numbers) = omega (arith, packed_size numbers) in
    ap (λ (at : ℕ). get_or (over (packed_of numbers) old) at 0) place
    ∙ get_or-append (packed_of numbers) (drop (length (packed_of numbers)) old) 0 (k * 8 + i) inner
    ∙ packed_byte numbers k i h l

pub reads_back : ReadsBack
unfolding number_at
reads_back numbers old k h small =
    same_terms 8 _ _ (λ i l. ap (λ (b : ℕ). b * 256 ^ i) (over_byte numbers old k i h l))
    ∙ sum_of_digits (get_or numbers k 0) 256 (lit< tt) 8
    ∙ mod-eq_of_lt small
