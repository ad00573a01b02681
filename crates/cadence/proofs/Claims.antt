-- The claims of specs/Claims.antt, each under its name in small letters.
use Prim.Native.Nat.{ℕ, zero, suc, ◌+◌, ◌-◌, ◌/◌, ◌%◌, ◌≤◌, ◌<◌}
use native.Mathlib.Omega.{arith}
use mathlib.Core.Path.{◌≡◌, refl, sym, ap, ◌∙◌}
use mathlib.Core.Bool.{Bool, true, false, cond}
use mathlib.Core.List.{List, [], ◌∷◌, ◌++◌, append_assoc}
use lib.Dec.{ltb}
use lib.ListN.{length, length-append}
use lib.Seq.{get_or-append-add}
use borrow.Author.Tests.{lt-ltb, le-ltb, ne_eqb}
use Rattle.refusal.specs.Refusal.{number_of}
use Rattle.field.specs.declared.Cadence.{Cadence}
use Rattle.field.specs.declared.Cadence.TheVariants.{None, Whole, Drop, Spanning}
use Rattle.listing.specs.Listing.{decimal_in, decimal_of, none_word, whole_first, drop_word, spanning_word, refused_first, line_end, cadence_word, lock_end}
use Rattle.cadence.specs.Told.{from_end, refusal_in}
use Rattle.cadence.specs.Claims.{TellsWhatWasSaid}

-- ---- what stands before does not matter

near : (before text : List ℕ) (k : ℕ) → k ≤ length text → from_end k (before ++ text) ≡ from_end k text
near before text k h =
    let e : length before + length text - k ≡ length before + (length text - k) = omega (arith, h) in
    rw (length-append before text, e) (get_or-append-add before text (length text - k) 0)

long : (before text : List ℕ) → 4 ≤ length text → 4 ≤ length (before ++ text)
long before text h = rw (length-append before text) (omega (arith, h))

three : {n : ℕ} → 4 ≤ n → 3 ≤ n
three h = omega (arith, h)

two : {n : ℕ} → 4 ≤ n → 2 ≤ n
two h = omega (arith, h)

ends : (before text : List ℕ) → 4 ≤ length text → refusal_in (before ++ text) ≡ refusal_in text
unfolding refusal_in
ends before text h =
    simp (le-ltb _ 4 (long before text h), le-ltb _ 4 h, near before text 3 (three h), near before text 4 h, near before text 2 (two h))

-- ---- a fault

below_ten : (most n : ℕ) → n < 10 → decimal_in most n ≡ (48 + n) ∷ []
unfolding decimal_in
below_ten zero n h = refl
below_ten (suc most) n h = rw (lt-ltb n 10 h)

digit_back : (n : ℕ) → 48 + n - 48 ≡ n
digit_back n = omega arith

fault_line : (n : ℕ) → refusal_in (refused_first ++ (((48 + n) ∷ []) ++ line_end)) ≡ n
unfolding refusal_in
fault_line n = digit_back n

ten : (n : ℕ) → 4 ≤ length (refused_first ++ (((48 + n) ∷ []) ++ line_end))
ten n = omega arith

fault_told : (before : List ℕ) (n : ℕ) → n < 10 → refusal_in (before ++ (refused_first ++ (decimal_of n ++ line_end))) ≡ n
unfolding decimal_of
fault_told before n h =
    rw (below_ten n n h) (ends before (refused_first ++ (((48 + n) ∷ []) ++ line_end)) (ten n) ∙ fault_line n)

-- ---- a frame

frame_line : (c : Cadence) (locked : Bool) → refusal_in (cadence_word c ++ lock_end locked) ≡ 0
unfolding refusal_in
frame_line None true = refl
frame_line None false = refl
frame_line Whole true = refl
frame_line Whole false = refl
frame_line Drop true = refl
frame_line Drop false = refl
frame_line Spanning true = refl
frame_line Spanning false = refl

frame_long : (c : Cadence) (locked : Bool) → 4 ≤ length (cadence_word c ++ lock_end locked)
frame_long None true = omega arith
frame_long None false = omega arith
frame_long Whole true = omega arith
frame_long Whole false = omega arith
frame_long Drop true = omega arith
frame_long Drop false = omega arith
frame_long Spanning true = omega arith
frame_long Spanning false = omega arith

frame_told : (before number : List ℕ) (c : Cadence) (locked : Bool) → refusal_in (before ++ (number ++ (cadence_word c ++ lock_end locked))) ≡ 0
frame_told before number c locked =
    ap refusal_in (sym (append_assoc before number (cadence_word c ++ lock_end locked)))
    ∙ (ends (before ++ number) (cadence_word c ++ lock_end locked) (frame_long c locked) ∙ frame_line c locked)

-- ---- totals

-- a text that ends with a digit
record Digits (text : List ℕ) : Type 0 where
  front : List ℕ
  last : ℕ
  is : text ≡ front ++ (last ∷ [])
  digit : 48 ≤ last

one : (front : List ℕ) (n : ℕ) → Digits (front ++ ((48 + n) ∷ []))
one front n = record { front = front; last = 48 + n; is = refl; digit = omega arith }

either : (b : Bool) {x y : List ℕ} → Digits x → Digits y → Digits (cond b x y)
either true x y = x
either false x y = y

digits_in : (most n : ℕ) → Digits (decimal_in most n)
unfolding decimal_in
digits_in zero n = one [] n
digits_in (suc most) n = either (ltb n 10) (one [] n) (one (decimal_in most (n / 10)) (n % 10))

-- the last total has one digit, or a digit stands where a refusal has a space
no_space : {d : ℕ} → 48 ≤ d → d ≡ 32 → ⊥
no_space h e = omega (arith, h, e)

digit_third : (before : List ℕ) (d a b : ℕ) → 1 ≤ length before → 48 ≤ d → refusal_in (before ++ (d ∷ a ∷ b ∷ [])) ≡ 0
unfolding refusal_in
digit_third before d a b h g =
    let long : 4 ≤ length (before ++ (d ∷ a ∷ b ∷ [])) = rw (length-append before (d ∷ a ∷ b ∷ [])) (omega (arith, h)) in
    simp (le-ltb _ 4 long, near before (d ∷ a ∷ b ∷ []) 3 (omega arith), ne_eqb d 32 (no_space g))

none_one : (n : ℕ) → refusal_in (none_word ++ (((48 + n) ∷ []) ++ line_end)) ≡ 0
unfolding refusal_in
none_one n = refl

regroup : (x f : List ℕ) (l r e : ℕ) → x ++ (((f ++ (l ∷ [])) ++ (r ∷ [])) ++ (e ∷ [])) ≡ (x ++ f) ++ (l ∷ r ∷ e ∷ [])
regroup x f l r e = simp append_assoc

some : (f : List ℕ) → 1 ≤ length (none_word ++ f)
some f = rw (length-append none_word f) (omega arith)

none_more : (r : ℕ) {text : List ℕ} → Digits text → refusal_in (none_word ++ ((text ++ ((48 + r) ∷ [])) ++ line_end)) ≡ 0
none_more r d =
    rw (d.is, regroup none_word d.front d.last (48 + r) 10)
    (digit_third (none_word ++ d.front) d.last (48 + r) 10 (some d.front) d.digit)

none_either : (b : Bool) (n r : ℕ) {text : List ℕ} → Digits text
    → refusal_in (none_word ++ (cond b ((48 + n) ∷ []) (text ++ ((48 + r) ∷ [])) ++ line_end)) ≡ 0
none_either true n r d = none_one n
none_either false n r d = none_more r d

none_in : (most n : ℕ) → refusal_in (none_word ++ (decimal_in most n ++ line_end)) ≡ 0
unfolding decimal_in
none_in zero n = none_one n
none_in (suc most) n = none_either (ltb n 10) n (n % 10) (digits_in most (n / 10))

none_line : (n : ℕ) → refusal_in (none_word ++ (decimal_of n ++ line_end)) ≡ 0
unfolding decimal_of
none_line n = none_in n n

none_long : (text : List ℕ) → 4 ≤ length (none_word ++ text)
none_long text = rw (length-append none_word text) (omega arith)

totals_grouped : (before w a x b y c text : List ℕ)
    → before ++ (w ++ (a ++ (x ++ (b ++ (y ++ (c ++ text)))))) ≡ (before ++ (w ++ (a ++ (x ++ (b ++ (y ++ c)))))) ++ text
totals_grouped before w a x b y c text = simp append_assoc

totals_told : (before w a x b y c : List ℕ) (n : ℕ)
    → refusal_in (before ++ (w ++ (a ++ (x ++ (b ++ (y ++ (c ++ (none_word ++ (decimal_of n ++ line_end))))))))) ≡ 0
totals_told before w a x b y c n =
    ap refusal_in (totals_grouped before w a x b y c (none_word ++ (decimal_of n ++ line_end)))
    ∙ (ends (before ++ (w ++ (a ++ (x ++ (b ++ (y ++ c)))))) (none_word ++ (decimal_of n ++ line_end)) (none_long (decimal_of n ++ line_end)) ∙ none_line n)

-- ---- the claim
pub tells_what_was_said : TellsWhatWasSaid
tells_what_was_said before = record {
  fault = λ n h. fault_told before n h;
  frame = λ n c locked. frame_told before (decimal_of n) c locked;
  totals = λ t. totals_told before whole_first (decimal_of t.whole) drop_word (decimal_of t.drop) spanning_word (decimal_of t.spanning) t.none;
}
