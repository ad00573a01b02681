-- The claims of specs/Claims.antt.
use Prim.Native.Nat.{ℕ, suc, ◌+◌, ◌-◌, ◌*◌, ◌/◌, ◌%◌, ◌^◌, ◌≤◌, ◌<◌, min, max}
use mathlib.Core.Path.{◌≡◌, refl, sym, ap, ◌∙◌, subst}
use mathlib.Core.Bool.{Bool, true, false, cond, not, ◌&&◌, true≢false}
use mathlib.Core.List.{List, [], ◌∷◌, nil≢cons, cons≢nil}
use native.Mathlib.Nat.{mod-lt, div-add-mod', le_trans, le_of_eq, div-one}
use native.Mathlib.Omega.{arith}
use borrow.Author.Tests.{lt-ltb, le-leb, lt-leb, leb-true, leb-false, ltb-false}
use lib.Dec.{leb, ltb, lit<, ltb→lt}
use lib.IntN.{pos, negsuc, neg_ℤ, ◌+ℤ◌}
use lib.ListN.{get_or}
use lib.Ieee.{Float, binary32, div, of_int}
use lib.Pow.{shr_lt, le_ones}
use Rattle.laws.specs.Refusal.{rising}
use Rattle.laws.proofs.Bools.{clash, and_left, and_right}
use Rattle.laws.proofs.Claims.{lowest_says}
use Rattle.float.proofs.Range.{unit_whole_quotient, whole_by_itself}
use Rattle.plane.specs.declared.Shape.{Shape}
use Rattle.plane.specs.declared.Layout.{Layout}
use Rattle.plane.specs.declared.Layout.TheVariants.{Planar, Luma, First, Second}
use Rattle.plane.specs.Plane.{components, component, sample_bytes, biplanar, stored_at, start_of, shift, word_of, full_code, code_of, value_of}
use Rattle.plane.specs.Coordinates.{held, parity_of, bias_of}
use Rattle.plane.specs.Claims.{AtSays, CodeSays, AllBytes, CodeWithinDepth, ValueInUnit, WordWithinIsCode, WordAboveIsFull, WordAboveIsOne, FullIsLargest, may_exceed, TheseExceed, OthersAreWithin, OneSampleOfTen, BiasKeeps, BiasIsEven, ParityIsEuclidean}
use Rattle.plane.proofs.Full.{full_least, full_most, full_short, full_long, full_low}
use Rattle.plane.proofs.Places.{no_shift}
use Rattle.plane.proofs.Coordinates.{unbiased_bias, parity_unbiased}

-- ---- refusals and answers
pub at_says : AtSays
unfolding rising
at_says s bytes x y = lowest_says _ tt

pub code_says : CodeSays
unfolding rising
code_says s bytes x y = lowest_says _ tt

-- ---- codes and values
pub code_within_depth : CodeWithinDepth
unfolding code_of
code_within_depth bytes s x y = omega arith

pub value_in_unit : ValueInUnit
unfolding value_of
value_in_unit bytes s x y =
    let column = held s.width x in
    let row = held s.height y in
    unit_whole_quotient (code_of bytes s column row) (full_code s.depth) (code_within_depth bytes s column row) (full_least s.depth) (full_most s.depth)

pub word_within_is_code : WordWithinIsCode
unfolding code_of
word_within_is_code bytes s x y h = omega arith

pub word_above_is_full : WordAboveIsFull
unfolding code_of
word_above_is_full bytes s x y h = omega arith

pub word_above_is_one : WordAboveIsOne
unfolding value_of
word_above_is_one bytes s x y h =
    let full = full_code s.depth in
    ap (λ (code : ℕ). div binary32 (of_int binary32 (pos code)) (of_int binary32 (pos full)))
    (word_above_is_full bytes s (held s.width x) (held s.height y) h)
    ∙ whole_by_itself full (full_least s.depth) (full_most s.depth)

-- a byte, and two bytes
byte_within : (bytes : List ℕ) → AllBytes bytes → (depth i : ℕ) → depth ≤ 8 → stored_at bytes depth i ≤ full_code depth
byte_within bytes all depth i h = rw (le-leb depth 8 h) (omega (arith, all i, full_short depth h))

pair_fits : (bytes : List ℕ) → AllBytes bytes → (depth i : ℕ) → stored_at bytes depth i < 2 ^ 16
pair_fits bytes all depth i = go (leb depth 8)
  where
    go : (b : Bool) → cond b (get_or bytes i 0) (get_or bytes i 0 + 256 * get_or bytes (i + 1) 0) < 2 ^ 16
    go true = omega (arith, all i)
    go false = omega (arith, all i, all (i + 1))

-- a pair shifted right by 16 - depth, and one of 16 bits or more
shifted_within : (pair depth : ℕ) → pair < 2 ^ 16 → 8 < depth → pair / 2 ^ (16 - depth) ≤ full_code depth
shifted_within pair depth fits h =
    let d = max 8 (min depth 16) in
    let k : 16 - depth ≡ 16 - d = omega arith in
    let e : 16 ≡ d + (16 - d) = omega arith in
    rw k (le_ones d (shr_lt d (16 - d) (subst (λ (n : ℕ). pair < 2 ^ n) e fits)))

long_within : (pair depth : ℕ) → pair < 2 ^ 16 → 16 ≤ depth → pair / 2 ^ 0 ≤ full_code depth
long_within pair depth fits h = omega (arith, full_long depth h)

-- of a plane deeper than 8 bits, by its layout
deep_within :
    (layout : Layout) (pair depth : ℕ) → pair < 2 ^ 16 → (deep : leb 9 depth ≡ true) (short : Bool) → ltb depth 16 ≡ short →
    (short && not (biplanar layout)) ≡ false → pair / 2 ^ shift layout depth ≤ full_code depth
deep_within Planar pair depth fits deep true s e = absurd (true≢false e)
deep_within Planar pair depth fits deep false s e = long_within pair depth fits (ltb-false depth 16 s)
deep_within Luma pair depth fits deep short s e = rw deep (shifted_within pair depth fits (leb-true 9 depth deep))
deep_within First pair depth fits deep short s e = rw deep (shifted_within pair depth fits (leb-true 9 depth deep))
deep_within Second pair depth fits deep short s e = rw deep (shifted_within pair depth fits (leb-true 9 depth deep))

word_within : (bytes : List ℕ) → AllBytes bytes → (s : Shape) → may_exceed s.layout s.depth ≡ false → (x y : ℕ) → word_of bytes s x y ≤ full_code s.depth
word_within bytes all s e x y = go (leb 9 s.depth) refl
  where
    go : (b : Bool) → leb 9 s.depth ≡ b → word_of bytes s x y ≤ full_code s.depth
    go false h =
        rw (no_shift s.layout s.depth h) (le_trans (le_of_eq (div-one (stored_at bytes s.depth (start_of s x y))))
        (byte_within bytes all s.depth (start_of s x y) (omega (arith, leb-false 9 s.depth h))))
    go true h =
        deep_within s.layout (stored_at bytes s.depth (start_of s x y)) s.depth (pair_fits bytes all s.depth (start_of s x y)) h
        (ltb s.depth 16) refl (rw (lt-ltb 8 s.depth (leb-true 9 s.depth h)) at e)

pub full_is_largest : FullIsLargest
full_is_largest depth low high = ap (λ (d : ℕ). 2 ^ d - 1) (omega arith)

-- only planar planes are such, and from nine bits on a word has two bytes
these_of :
    (layout : Layout) (depth stride : ℕ) → may_exceed layout depth ≡ true →
    full_code depth < stored_at (0xFF ∷ 0xFF ∷ []) depth (0 * stride + (0 * components layout + component layout) * sample_bytes depth) / 2 ^ shift layout depth
these_of Planar depth stride e =
    let both = and_left (ltb 8 depth && ltb depth 16) true e in
    let low = and_left (ltb 8 depth) (ltb depth 16) both in
    let high = and_right (ltb 8 depth) (ltb depth 16) both in
    let deep : leb depth 8 ≡ false = lt-leb depth 8 (ltb→lt 8 depth (rw low tt)) in
    let start : 0 * stride + (0 * 1 + 0) * sample_bytes depth ≡ 0 = omega arith in
    rw (start, deep) (omega (arith, full_low depth (ltb→lt depth 16 (rw high tt))))
these_of Luma depth stride e = clash (and_right (ltb 8 depth && ltb depth 16) false e) refl
these_of First depth stride e = clash (and_right (ltb 8 depth && ltb depth 16) false e) refl
these_of Second depth stride e = clash (and_right (ltb 8 depth && ltb depth 16) false e) refl

pub these_exceed : TheseExceed
these_exceed s e = these_of s.layout s.depth s.stride e

pub one_sample_of_ten : OneSampleOfTen
unfolding code_of
one_sample_of_ten = (refl, refl, refl, refl, refl)

pub others_are_within : OthersAreWithin
others_are_within bytes all s e x y = word_within_is_code bytes s x y (word_within bytes all s e x y)

-- ---- coordinates
pub bias_keeps : BiasKeeps
bias_keeps = unbiased_bias

pub bias_is_even : BiasIsEven
bias_is_even x h = ap parity_of (sym (unbiased_bias x h)) ∙ parity_unbiased (bias_of x)

halves : (n : ℕ) → n / 2 * 2 + n % 2 ≡ n
halves n = div-add-mod' n 2

-- -a + r is -(n + 1) where a is n + 1 + r
back : (n r : ℕ) → negsuc (n + r) +ℤ pos r ≡ negsuc n
back n r =
    let e : suc (n + r) - suc r ≡ n = omega arith in
    simp (lt-ltb r (suc (n + r)) (omega arith), e)

back_to : (n r a : ℕ) → a ≡ suc (n + r) → neg_ℤ (pos a) +ℤ pos r ≡ negsuc n
back_to n r a e = ap (λ (k : ℕ). neg_ℤ (pos k) +ℤ pos r) e ∙ back n r

-- -(n + 1) is twice -(n / 2 + 1), and the remainder
pub parity_is_euclidean : ParityIsEuclidean
parity_is_euclidean (pos n) = record { quotient = pos (n / 2); splits = ap pos (halves n); small = mod-lt n (lit< tt) }
parity_is_euclidean (negsuc n) = record { quotient = negsuc (n / 2); splits = back_to n (suc n % 2) (suc (n / 2) * 2) (omega arith); small = mod-lt (suc n) (lit< tt) }
