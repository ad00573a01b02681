-- Laws of rows laid end to end, by which a loop that writes sample after sample, or row after row, is known to have written them all.
use Prim.Native.Nat.{ℕ, suc, ◌+◌, ◌-◌, ◌*◌, ◌≤◌, ◌<◌}
use mathlib.Core.Path.{◌≡◌, refl, sym, ◌∙◌, ap}
use mathlib.Core.List.{List, ◌∷◌, ◌++◌, append_assoc, append-nil}
use native.Mathlib.Nat.{suc-mul, mul-le-mul_right}
use native.Mathlib.Numerals.{add-one}
use native.Mathlib.Omega.{arith}
use lib.ListN.{length, get_or, take, drop, set, length-append, length-take, length-drop}
use lib.Seq.{drop-cons, drop-length, set_at}
use Rattle.laws.specs.Rows.{listed, laid, over}
use Rattle.laws.proofs.Lists.{length_listed, length_laid, behind_part, over_then, Stacked, stack_ends}

module _ {A : Type 0} where
  -- ---- the front of a list, written sample after sample

  -- what is written leaves the length
  pub length_over : (new old : List A) → length new ≤ length old → length (over new old) ≡ length old
  length_over new old l = simp (length-append, length-drop) (omega arith)

  -- what is written whole is all there is
  pub over_all : (new old : List A) → length old ≡ length new → over new old ≡ new
  over_all new old e = rw (← e, drop-length, append-nil)

  pub over_none : (f : ℕ → A) (old : List A) → old ≡ over (listed 0 f) old
  unfolding listed
  over_none f old = refl

  -- one sample more
  pub over_more :
      (n : ℕ) (f : ℕ → A) (old so_far : List A) (v : A) → so_far ≡ over (listed n f) old → n < length old → v ≡ f n →
      set so_far n v ≡ over (listed (n + 1) f) old
  unfolding listed
  over_more n f old so_far v h l e =
      let long = length_listed n f in
      let split : over (listed n f) old ≡ listed n f ++ (get_or old n v ∷ drop (suc n) old) = rw (long, drop-cons old n v l) in
      let grown : over (listed (n + 1) f) old ≡ listed n f ++ (f n ∷ drop (suc n) old) = simp (add-one, length-append, long, append_assoc) in
      ap (λ (xs : List A). set xs n v) (h ∙ split)
      ∙ (set_at (listed n f) (get_or old n v) (drop (suc n) old) v n long ∙ ((λ i. listed n f ++ (e i ∷ drop (suc n) old)) ∙ sym grown))

  -- ---- rows, written one after the other

  pub over_no_row : (row : ℕ → List A) (old : List A) → old ≡ over (laid 0 row) old
  unfolding laid
  over_no_row row old = refl

  -- the part of a list that is lent for a row
  pub length_part : (at w : ℕ) (xs : List A) → at + w ≤ length xs → length (take (at + w - at) (drop at xs)) ≡ w
  length_part at w xs l = simp (length-take, length-drop) (omega arith)

  -- one row more, put in at its place, as a part of the list that was lent comes back
  pub over_row :
      (n w : ℕ) (row : ℕ → List A) (old so_far line : List A) → so_far ≡ over (laid n row) old → ((k : ℕ) → length (row k) ≡ w) → line ≡ row n →
      take (n * w) so_far ++ (line ++ drop (n * w + w - n * w) (drop (n * w) so_far)) ≡ over (laid (n + 1) row) old
  unfolding laid
  over_row n w row old so_far line s h e =
      let long = length_laid row w h n in
      ap (λ (rest : List A). take (n * w) so_far ++ (line ++ rest)) (behind_part (n * w) w so_far)
      ∙ ap (λ (xs : List A). take (n * w) xs ++ (line ++ drop (n * w + w) xs)) s
      ∙ over_then (laid n row) line old (n * w) w long (ap length e ∙ h n)
      ∙ ap (λ (xs : List A). over xs old) (ap (λ (last : List A). laid n row ++ last) e ∙ ap (λ (k : ℕ). laid k row) (sym (add-one n)))

  -- rows that fill a list are all there is
  pub stack_fills :
      {row : ℕ → List A} {width n : ℕ} {old new : List A} {y : ℕ} (wide : (y : ℕ) → length (row y) ≡ width) →
      Stacked row width n old new y → n ≤ y → length old ≡ n * width → new ≡ laid n row
  stack_fills {row} {width} {n} {old} wide s h e =
      stack_ends wide s h ∙ over_all (laid n row) old (e ∙ sym (length_laid row width wide n))

-- row y of h rows of w ends within what holds them all
pub row_within : (y h w n : ℕ) → y < h → h * w ≤ n → y * w + w ≤ n
row_within y h w n l f =
    let m : suc y * w ≤ h * w = mul-le-mul_right w (omega arith) in omega (arith, m, suc-mul y w)

-- row y of h rows that stand a stride apart ends before the last one does
pub strided_within : (stride h row bytes y : ℕ) → (h - 1) * stride + row ≤ bytes → y < h → y * stride + row ≤ bytes
strided_within stride h row bytes y long l =
    let above : y ≤ h - 1 = omega arith in
    omega (arith, mul-le-mul_right stride above)
