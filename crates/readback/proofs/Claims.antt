-- The claims of specs/Claims.antt.
use Prim.Native.Nat.{ℕ, ◌+◌, ◌*◌, ◌/◌, ◌%◌, ◌≤◌, ◌<◌, min}
use mathlib.Core.Path.{◌≡◌, refl, sym, ap, ap₂, ◌∙◌}
use mathlib.Core.Logic.{◌⊎◌, inl, inr, ⊎_elim}
use mathlib.Core.Bool.{Bool, true, false, cond, ◌&&◌}
use mathlib.Core.List.{List, [], ◌∷◌}
use native.Mathlib.Nat.{le_refl, div-one}
use native.Mathlib.Omega.{arith}
use lib.Dec.{leb, eqb, lit<, lit≤}
use borrow.Author.Tests.{leb-false, eqb-true, eqb-false, le-leb, lt-leb}
use lib.ListN.{length, drop, get_or, get_or-append}
use Rattle.laws.specs.Refusal.{lowest, rising}
use Rattle.laws.specs.Rows.{over}
use Rattle.laws.proofs.Claims.{lowest_says}
use Rattle.laws.proofs.Lists.{length_laid, laid_at}
use Rattle.laws.proofs.Rows.{row_within, over_all}
use Rattle.laws.proofs.Bools.{known, clash, and_fails}
use Rattle.plane.specs.declared.Shape.{Shape}
use Rattle.plane.specs.Plane.{sample_bytes, full_code, word_of, code_of}
use Rattle.readback.specs.declared.Readback.{Readback}
use Rattle.readback.specs.declared.Sizes.{Sizes}
use Rattle.readback.specs.Readback.{luma_shape, cb_shape, cr_shape, cr_bytes_of, sizes_of, sizes_tests, sizes_no, outputs_hold, readback_tests, readback_no}
use Rattle.readback.specs.Readback.{word_bytes, copied_row, copied_of}
use Rattle.readback.specs.Claims.{SizesSays, ReadbackSays, Shorter, Follows, CopyFollows, JustFills, SizesPacked, CopiedSize, WordsKept, CodesKept}
use Rattle.readback.proofs.Rows.{length_word, length_copied}
use Rattle.readback.proofs.Passed.{seven_behind, refusal_stands}

pub sizes_says : SizesSays
unfolding rising
sizes_says r luma second third = lowest_says (sizes_tests r luma second third) tt

pub readback_says : ReadbackSays
unfolding rising
readback_says r luma second third luma_room cb_room cr_room = lowest_says (readback_tests r luma second third luma_room cb_room cr_room) tt

pub copied_size : CopiedSize
unfolding copied_of
copied_size bytes s = length_laid (copied_row bytes s) (s.width * sample_bytes s.depth) (length_copied bytes s) s.height

-- ---- the two calls

-- no number of the first call is 7
up_to_six : (a b c d : Bool) → lowest ((1, a) ∷ (2, b) ∷ (4, c) ∷ (6, d) ∷ []) ≤ 6
unfolding lowest
up_to_six false b c d = lit≤ tt
up_to_six true false c d = lit≤ tt
up_to_six true true false d = lit≤ tt
up_to_six true true true false = lit≤ tt
up_to_six true true true true = lit≤ tt

not_seven : {m n : ℕ} → m ≡ n → n ≤ 6 → m ≡ 7 → ⊥
not_seven same most seven = omega arith

-- an output is shorter exactly where there is no room
module _ (told : Sizes) (luma_room cb_room cr_room : ℕ) where
  abbrev rooms : Sizes
  rooms = record { luma = luma_room; cb = cb_room; cr = cr_room }

  shorter : outputs_hold told luma_room cb_room cr_room ≡ false → Shorter told rooms
  shorter e = by (known (leb told.luma luma_room)) (known (leb told.cb cb_room)) (known (leb told.cr cr_room))
    where
      by :
          (leb told.luma luma_room ≡ true) ⊎ (leb told.luma luma_room ≡ false) → (leb told.cb cb_room ≡ true) ⊎ (leb told.cb cb_room ≡ false)
          → (leb told.cr cr_room ≡ true) ⊎ (leb told.cr cr_room ≡ false) → Shorter told rooms
      by (inr p) cb cr = inl (leb-false _ _ p)
      by (inl p) (inr q) cr = inr (inl (leb-false _ _ q))
      by (inl p) (inl q) (inr s) = inr (inr (leb-false _ _ s))
      by (inl p) (inl q) (inl s) = clash (rw (p, q, s) refl) e

  no_room : Shorter told rooms → outputs_hold told luma_room cb_room cr_room ≡ false
  no_room (inl h) = simp (lt-leb told.luma luma_room h)
  no_room (inr (inl h)) = rw (and_fails (leb told.luma luma_room) _ (lt-leb told.cb cb_room h)) refl
  no_room (inr (inr h)) = and_fails (leb told.luma luma_room && leb told.cb cb_room) _ (lt-leb told.cr cr_room h)

module _ (r : Readback) (luma second third luma_room cb_room cr_room : ℕ) where
  abbrev number : ℕ
  number = readback_no r luma second third luma_room cb_room cr_room

  abbrev room : Bool
  room = outputs_hold (sizes_of r) luma_room cb_room cr_room

  six : sizes_no r luma second third ≤ 6
  six = up_to_six _ _ _ _

  taken : sizes_no r luma second third ≡ 0 → (room ≡ true) ⊎ (room ≡ false) → Follows r luma second third luma_room cb_room cr_room
  taken done (inl e) =
      let zero : number ≡ 0 = seven_behind r luma second third luma_room cb_room cr_room done ∙ ap (λ (b : Bool). cond b 0 7) e in
      record {
        seven = (λ h. absurd (not_seven zero (lit≤ tt) h), λ h. clash e (no_room (sizes_of r) luma_room cb_room cr_room h.1));
        alike = λ _. zero ∙ sym done;
        up_to_six = six;
      }
  taken done (inr e) =
      let seven : number ≡ 7 = seven_behind r luma second third luma_room cb_room cr_room done ∙ ap (λ (b : Bool). cond b 0 7) e in
      record {
        seven = (λ _. (done, shorter (sizes_of r) luma_room cb_room cr_room e), λ _. seven);
        alike = λ h. absurd (h seven);
        up_to_six = six;
      }

  refused : (sizes_no r luma second third ≡ 0 → ⊥) → Follows r luma second third luma_room cb_room cr_room
  refused h =
      let same = refusal_stands r luma second third luma_room cb_room cr_room h in
      record {
        seven = (λ e. absurd (not_seven same six e), λ e. absurd (h e.0));
        alike = λ _. same;
        up_to_six = six;
      }

pub copy_follows : CopyFollows
copy_follows r luma second third luma_room cb_room cr_room =
    ⊎_elim (λ z. taken r luma second third luma_room cb_room cr_room (eqb-true _ 0 z) (known (outputs_hold (sizes_of r) luma_room cb_room cr_room)))
    (λ z. refused r luma second third luma_room cb_room cr_room (eqb-false _ 0 z)) (known (eqb (sizes_no r luma second third) 0))

pub just_fills : JustFills
just_fills r luma second third out_luma out_cb out_cr done just =
    let full : (n : ℕ) → leb n n ≡ true = λ n. le-leb n n (le_refl n) in
    record {
      done =
          seven_behind r (length luma) (length second) (length third) (length out_luma) (length out_cb) (length out_cr) done
          ∙ ap (λ (sizes : Sizes). cond (outputs_hold sizes (length out_luma) (length out_cb) (length out_cr)) 0 7) (sym just)
          ∙ simp (full (length out_luma), full (length out_cb), full (length out_cr));
      luma_filled = over_all (copied_of luma (luma_shape r)) out_luma (ap (λ (sizes : Sizes). sizes.luma) just ∙ sym (copied_size luma (luma_shape r)));
      cb_filled = over_all (copied_of second (cb_shape r)) out_cb (ap (λ (sizes : Sizes). sizes.cb) just ∙ sym (copied_size second (cb_shape r)));
      cr_filled =
          over_all (copied_of (cr_bytes_of r second third) (cr_shape r)) out_cr
          (ap (λ (sizes : Sizes). sizes.cr) just ∙ sym (copied_size (cr_bytes_of r second third) (cr_shape r)));
    }

pub sizes_packed : SizesPacked
sizes_packed r = refl

-- ---- the copy

-- byte j of the word in column x of row y, in the copy
module _ (bytes old : List ℕ) (s : Shape) (x y : ℕ) (l : x < s.width) (h : y < s.height) where
  copied_byte :
      (j : ℕ) → j < sample_bytes s.depth →
      get_or (over (copied_of bytes s) old) (y * (s.width * sample_bytes s.depth) + (x * sample_bytes s.depth + j)) 0
      ≡ get_or (word_bytes s.depth (word_of bytes s x y)) j 0
  unfolding copied_of copied_row
  copied_byte j k =
      let size = sample_bytes s.depth in
      let row = s.width * size in
      let column = x * size + j in
      let in_row : column < row = omega (arith, row_within x s.width size row l (le_refl row)) in
      let inner : y * row + column < length (copied_of bytes s) =
      rw (copied_size bytes s) (omega (arith, row_within y s.height row (s.height * row) h (le_refl (s.height * row)))) in
      get_or-append (copied_of bytes s) (drop (length (copied_of bytes s)) old) 0 (y * row + column) inner
      ∙ laid_at (copied_row bytes s) row (length_copied bytes s) s.height column y 0 in_row h
      ∙ laid_at (λ x. word_bytes s.depth (word_of bytes s x y)) size (λ x. length_word s.depth (word_of bytes s x y)) s.width j x 0 k l

-- a word read from where its bytes stand
word_read :
    (byte : Bool) (list : List ℕ) (start word : ℕ) →
    ((j : ℕ) → j < cond byte 1 2 → get_or list (start + j) 0 ≡ get_or (cond byte (word ∷ []) (word % 256 ∷ word / 256 ∷ [])) j 0) →
    cond byte (get_or list start 0) (get_or list start 0 + 256 * get_or list (start + 1) 0) ≡ word
word_read true list start word h = ap (λ (i : ℕ). get_or list i 0) (omega arith) ∙ h 0 (lit< tt)
word_read false list start word h =
    ap₂ (λ (low high : ℕ). low + 256 * high) (ap (λ (i : ℕ). get_or list i 0) (omega arith) ∙ h 0 (lit< tt)) (h 1 (lit< tt)) ∙ omega arith

pub words_kept : WordsKept
words_kept bytes old s x y l h =
    let size = sample_bytes s.depth in
    let row = s.width * size in
    let place : (j : ℕ) → y * row + (x * 1 + 0) * size + j ≡ y * row + (x * size + j) = λ j. omega arith in
    div-one _
    ∙ word_read (leb s.depth 8) (over (copied_of bytes s) old) (y * row + (x * 1 + 0) * size) (word_of bytes s x y)
    (λ j k. ap (λ (i : ℕ). get_or (over (copied_of bytes s) old) i 0) (place j) ∙ copied_byte bytes old s x y l h j k)

pub codes_kept : CodesKept
unfolding code_of
codes_kept bytes old s x y fits deep l h = ap (λ (word : ℕ). min word (full_code s.depth)) (words_kept bytes old s x y l h)
