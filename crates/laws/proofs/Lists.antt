-- Laws of lists that are given place by place (`listed`) and row by row (`laid`). A loop that writes f 0, f 1, .. keeps `Filled`, and one that
-- writes row 0, row 1, .. keeps `Stacked`: `fill_starts` and `stack_starts` enter them, `fills` and `stacks` are a turn, `fill_ends` and
-- `stack_ends` leave them.
use Prim.Native.Nat.{ℕ, zero, suc, ◌+◌, ◌-◌, ◌*◌, ◌≤◌, ◌<◌, min}
use mathlib.Core.Path.{◌≡◌, refl, sym, ap, ap₂, ◌∙◌}
use mathlib.Core.List.{List, [], ◌∷◌, ◌++◌, append-nil, append_assoc}
use native.Mathlib.Decide.{ℕ_discrete}
use native.Mathlib.Nat.{add-zero, add-suc, zero-mul, suc-mul, one-mul, mul-le-mul_right, le_trans, le_antisymm}
use native.Mathlib.Numerals.{add-one}
use native.Mathlib.Omega.{arith}
use lib.ListN.{length, take, drop, get_or, set, length-append, length-take, length-drop, length-set, drop_of_length-le, get_or-append}
use lib.Seq.{ext_get_or, drop-cons, set_at, sets-eq, take_at, drop_at, drop-drop, get_or_at, get_or-append-add, length-take-le, get_or-take, get_or-drop}
use Rattle.laws.specs.Rows.{listed, laid, over}

-- ---- a list given place by place
module _ {A : Type 0} where
  pub length_listed : (n : ℕ) (f : ℕ → A) → length (listed n f) ≡ n
  unfolding listed
  length_listed zero f = refl
  length_listed (suc n) f = length-append (listed n f) (f n ∷ []) ∙ ap (λ (k : ℕ). k + 1) (length_listed n f) ∙ add-one n

  -- two are equal by their places
  pub same_listed : (n : ℕ) (f g : ℕ → A) → ((x : ℕ) → x < n → f x ≡ g x) → listed n f ≡ listed n g
  unfolding listed
  same_listed zero f g h = refl
  same_listed (suc n) f g h =
      ap₂ (λ (front : List A) (last : A). front ++ (last ∷ [])) (same_listed n f g (λ x l. h x (omega arith))) (h n (omega arith))

  -- what stands in a place
  pub listed_at : (n : ℕ) (f : ℕ → A) (x : ℕ) (d : A) → x < n → get_or (listed n f) x d ≡ f x
  unfolding listed
  listed_at zero f x d h = absurd (omega arith)
  listed_at (suc n) f x d h = place (ℕ_discrete x n) (listed_at n f x d)
    where
      place : Dec (x ≡ n) → (x < n → get_or (listed n f) x d ≡ f x) → get_or (listed n f ++ (f n ∷ [])) x d ≡ f x
      place (yes e) earlier = get_or_at (listed n f) (f n) [] d x (length_listed n f ∙ sym e) ∙ ap f (sym e)
      place (no e) earlier =
          let below : x < n = omega (arith, e) in
          get_or-append (listed n f) (f n ∷ []) d x (rw (length_listed n f) below) ∙ earlier below

  -- a list is what stands in its places
  pub listed_again : (l : List A) (n : ℕ) (d : A) → n ≡ length l → listed n (λ x. get_or l x d) ≡ l
  listed_again l n d e =
      let long = length_listed n (λ (x : ℕ). get_or l x d) in
      ext_get_or d (listed n (λ x. get_or l x d)) l (long ∙ e) (λ i h. listed_at n (λ (x : ℕ). get_or l x d) i d (rw long at h))

  -- ---- a part of a list: how long one is that ends within its list, and what stands in it
  pub part_length : (l : List A) (start n : ℕ) → start + n ≤ length l → length (take n (drop start l)) ≡ n
  part_length l start n h = length-take-le n (drop start l) (rw length-drop (omega arith))

  -- one that is lent from 0 on
  pub front_length : (l : List A) (n : ℕ) → n ≤ length l → length (take (n - 0) (drop 0 l)) ≡ n
  front_length l n h =
      let whole : n - 0 ≡ n = omega arith in
      rw whole (length-take-le n l h)

  pub part_at : (l : List A) (start n x : ℕ) (d : A) → x < n → get_or (take n (drop start l)) x d ≡ get_or l (start + x) d
  part_at l start n x d h = get_or-take n (drop start l) x d h ∙ get_or-drop start l x d

  -- one that is brought within its list
  pub part_held :
      (l : List A) (start n : ℕ) {from size : ℕ} (d : A) → from ≡ min start (length l) → size ≡ min n (length l - from) →
      take (from + size - from) (drop from l) ≡ take n (drop start l)
  part_held l start n {from} {size} d f s =
      let span : from + size - from ≡ size = omega arith in
      let long : length (take size (drop from l)) ≡ size = part_length l from size (omega arith) in
      let asked : length (take n (drop start l)) ≡ size = length-take n (drop start l) ∙ rw length-drop (omega arith) in
      rw span
      (ext_get_or d (take size (drop from l)) (take n (drop start l)) (long ∙ sym asked)
      (λ x h.
      let near : x < size = rw long at h in
      let same : from ≡ start = omega arith in
      part_at l from size x d near ∙ ap (λ (k : ℕ). get_or l (k + x) d) same ∙ sym (part_at l start n x d (omega arith))))

  -- ---- lists one behind the other
  -- a list written behind another that was written at the front
  pub over_then :
      (x y old : List A) (start n : ℕ) → length x ≡ start → length y ≡ n →
      take start (over x old) ++ (y ++ drop (start + n) (over x old)) ≡ over (x ++ y) old
  over_then x y old start n e f =
      let rest = drop (length x) old in
      let front : take start (x ++ rest) ≡ x = take_at x rest start e in
      let both : length (x ++ y) ≡ length x + n = length-append x y ∙ ap (λ (k : ℕ). length x + k) f in
      let back : drop (start + n) (x ++ rest) ≡ drop (length (x ++ y)) old =
      sym (drop-drop n start (x ++ rest))
      ∙ ap (λ (l : List A). drop n l) (drop_at x rest start e)
      ∙ drop-drop n (length x) old
      ∙ ap (λ (k : ℕ). drop k old) (sym both) in
      (λ i. front i ++ (y ++ back i)) ∙ sym (append_assoc x y (drop (length (x ++ y)) old))

  -- what lies behind a part that was lent, in the two ways it is said
  pub behind_part : (start n : ℕ) (l : List A) → drop (start + n - start) (drop start l) ≡ drop (start + n) l
  behind_part start n l =
      let to : start + (start + n - start) ≡ start + n = omega arith in
      drop-drop (start + n - start) start l ∙ ap (λ (k : ℕ). drop k l) to

  -- three lists and what lies behind them
  module _ (x y z rest : List A) where
    abbrev three : List A
    three = (x ++ (y ++ z)) ++ rest

    in_a_row : three ≡ x ++ (y ++ (z ++ rest))
    in_a_row = append_assoc x (y ++ z) rest ∙ ap (λ (l : List A). x ++ l) (append_assoc y z rest)

    pub part_one : (a : ℕ) → length x ≡ a → take a three ≡ x
    part_one a e = ap (λ (l : List A). take a l) in_a_row ∙ take_at x (y ++ (z ++ rest)) a e

    behind_one : (a : ℕ) → length x ≡ a → drop a three ≡ y ++ (z ++ rest)
    behind_one a e = ap (λ (l : List A). drop a l) in_a_row ∙ drop_at x (y ++ (z ++ rest)) a e

    pub part_two : (a b : ℕ) → length x ≡ a → length y ≡ b → take b (drop a three) ≡ y
    part_two a b e f = ap (λ (l : List A). take b l) (behind_one a e) ∙ take_at y (z ++ rest) b f

    pub part_three : (a b c : ℕ) → length x ≡ a → length y ≡ b → length z ≡ c → take c (drop (a + b) three) ≡ z
    part_three a b c e f g =
        ap (λ (l : List A). take c l)
        (sym (drop-drop b a three) ∙ ap (λ (l : List A). drop b l) (behind_one a e) ∙ drop_at y (z ++ rest) b f)
        ∙ take_at z rest c g

  -- two elements written one after the other are a part written, and four are all there is in a list of four
  two_written : (l : List A) (i : ℕ) (a b : A) → i + 2 ≤ length l → set (set l i a) (i + 1) b ≡ take i l ++ ((a ∷ b ∷ []) ++ drop (i + 2) l)
  two_written l i a b h =
      ap (λ (k : ℕ). set (set l i a) k b) (add-one i) ∙ sets-eq (a ∷ b ∷ []) l i h ∙ append_assoc (take i l) (a ∷ b ∷ []) (drop (i + 2) l)

  pub four : (l : List A) (a b c d : A) → length l ≡ 4 → set (set (set (set l 0 a) 1 b) 2 c) 3 d ≡ a ∷ b ∷ c ∷ d ∷ []
  four [] a b c d e = absurd (omega arith)
  four (w ∷ []) a b c d e = absurd (omega arith)
  four (w ∷ x ∷ []) a b c d e = absurd (omega arith)
  four (w ∷ x ∷ y ∷ []) a b c d e = absurd (omega arith)
  four (w ∷ x ∷ y ∷ z ∷ []) a b c d e = refl
  four (w ∷ x ∷ y ∷ z ∷ v ∷ l) a b c d e = absurd (omega arith)

  -- ---- rows laid end to end
  -- they are equal by their rows
  pub same_laid : (n : ℕ) (f g : ℕ → List A) → ((y : ℕ) → y < n → f y ≡ g y) → laid n f ≡ laid n g
  unfolding laid
  same_laid zero f g h = refl
  same_laid (suc n) f g h = ap₂ (λ (front last : List A). front ++ last) (same_laid n f g (λ y l. h y (omega arith))) (h n (omega arith))

  -- k rows after the first n
  laid_further : (n k : ℕ) (row : ℕ → List A) → laid (n + k) row ≡ laid n row ++ laid k (λ y. row (n + y))
  unfolding laid
  laid_further n zero row = ap (λ (m : ℕ). laid m row) (add-zero n) ∙ sym (append-nil (laid n row))
  laid_further n (suc k) row =
      ap (λ (m : ℕ). laid m row) (add-suc n k)
      ∙ ap (λ (front : List A). front ++ row (n + k)) (laid_further n k row)
      ∙ append_assoc (laid n row) (laid k (λ y. row (n + y))) (row (n + k))

  -- rows of one element each are a list given place by place
  pub laid_singles : (n : ℕ) (f : ℕ → A) → laid n (λ x. f x ∷ []) ≡ listed n f
  unfolding laid listed
  laid_singles zero f = refl
  laid_singles (suc n) f = ap (λ (front : List A). front ++ (f n ∷ [])) (laid_singles n f)

-- Rows of which only those up to `last` are known to have one width. With that row in the place of each later one, all have it, as the laws of
-- rows ask, and nothing that is laid up to there changes.
module _ {A : Type 0} (row : ℕ → List A) (last : ℕ) where
  abbrev pub clamped : ℕ → List A
  clamped y = row (min y last)

  pub clamped_wide : (width : ℕ) → ((y : ℕ) → y ≤ last → length (row y) ≡ width) → (y : ℕ) → length (clamped y) ≡ width
  clamped_wide width wide y = wide (min y last) (omega arith)

  pub clamped_row : (y : ℕ) → y ≤ last → clamped y ≡ row y
  clamped_row y h =
      let e : min y last ≡ y = omega arith in
      rw e

  pub clamped_laid : (n : ℕ) → n ≤ suc last → laid n clamped ≡ laid n row
  clamped_laid n h = same_laid n clamped row (λ y l. clamped_row y (omega arith))

-- ---- rows of one width laid end to end
module _ {A : Type 0} (row : ℕ → List A) (width : ℕ) (wide : (y : ℕ) → length (row y) ≡ width) where
  pub length_laid : (n : ℕ) → length (laid n row) ≡ n * width
  unfolding laid
  length_laid zero = sym (zero-mul width)
  length_laid (suc n) = length-append (laid n row) (row n) ∙ ap₂ (λ (a b : ℕ). a + b) (length_laid n) (wide n) ∙ sym (suc-mul n width)

  -- what stands in column x of row y
  pub laid_at : (n x y : ℕ) (d : A) → x < width → y < n → get_or (laid n row) (y * width + x) d ≡ get_or (row y) x d
  unfolding laid
  laid_at zero x y d h k = absurd (omega arith)
  laid_at (suc n) x y d h k = place (ℕ_discrete y n) (laid_at n x y d h)
    where
      place :
          Dec (y ≡ n) → (y < n → get_or (laid n row) (y * width + x) d ≡ get_or (row y) x d) →
          get_or (laid n row ++ row n) (y * width + x) d ≡ get_or (row y) x d
      place (yes e) earlier =
          rw (e, ← length_laid n) (get_or-append-add (laid n row) (row n) x d)
      place (no e) earlier =
          let below : y < n = omega (arith, e) in
          let inner : y * width + x < length (laid n row) =
          rw (length_laid n) (omega (arith, suc-mul y width, mul-le-mul_right {m = suc y} {n = n} width below)) in
          get_or-append (laid n row) (row n) d (y * width + x) inner ∙ earlier below

  -- row y, cut out of n rows, with something behind them or nothing
  pub cut_row : (n y : ℕ) (rest : List A) → y < n → take width (drop (y * width) (laid n row ++ rest)) ≡ row y
  unfolding laid
  cut_row zero y rest h = absurd (omega arith)
  cut_row (suc n) y rest h = place (ℕ_discrete y n) (cut_row n y (row n ++ rest))
    where
      place :
          Dec (y ≡ n) → (y < n → take width (drop (y * width) (laid n row ++ (row n ++ rest))) ≡ row y) →
          take width (drop (y * width) ((laid n row ++ row n) ++ rest)) ≡ row y
      place (yes e) earlier =
          rw (e, append_assoc (laid n row) (row n) rest, drop_at (laid n row) (row n ++ rest) (n * width) (length_laid n))
          (take_at (row n) rest width (wide n))
      place (no e) earlier = rw (append_assoc (laid n row) (row n) rest) (earlier (omega (arith, e)))

  pub laid_row : (n y : ℕ) → y < n → take width (drop (y * width) (laid n row)) ≡ row y
  laid_row n y h = ap (λ (l : List A). take width (drop (y * width) l)) (sym (append-nil (laid n row))) ∙ cut_row n y [] h

-- ---- a list `new` that was `old`, after the first x places are written
pub record Filled {A : Type 0} (f : ℕ → A) (old new : List A) (x : ℕ) : Type 0 where
  pub within : x ≤ length old
  pub long : length new ≡ length old
  pub exact : new ≡ listed x f ++ drop x old

module _ {A : Type 0} {f : ℕ → A} {old : List A} where
  pub fill_starts : Filled f old old 0
  unfolding listed
  fill_starts = record { within = omega arith; long = refl; exact = refl }

  pub fills : {new : List A} {x : ℕ} {value : A} → Filled f old new x → x < length old → value ≡ f x → Filled f old (set new x value) (x + 1)
  unfolding listed
  fills {new} {x} {value} l h e = record {
    within = omega arith;
    long = length-set new x value ∙ l.long;
    exact =
        ap (λ (list : List A). set list x value) (l.exact ∙ ap (λ (rest : List A). listed x f ++ rest) (drop-cons old x value h))
        ∙ set_at (listed x f) (get_or old x value) (drop (suc x) old) value x (length_listed x f)
        ∙ rw (e, add-one) (sym (append_assoc (listed x f) (f x ∷ []) (drop (suc x) old)));
  }

  -- the next place is still what it was
  pub fill_reads : {new : List A} {x : ℕ} (d : A) → Filled f old new x → x < length old → get_or new x d ≡ get_or old x d
  fill_reads {new} {x} d l h =
      ap (λ (list : List A). get_or list x d) (l.exact ∙ ap (λ (rest : List A). listed x f ++ rest) (drop-cons old x d h))
      ∙ get_or_at (listed x f) (get_or old x d) (drop (suc x) old) d x (length_listed x f)

  pub fill_ends : {new : List A} {x : ℕ} → Filled f old new x → length old ≤ x → new ≡ listed (length old) f
  fill_ends {new} {x} l h =
      l.exact
      ∙ ap (λ (rest : List A). listed x f ++ rest) (drop_of_length-le old h)
      ∙ append-nil (listed x f)
      ∙ ap (λ (k : ℕ). listed k f) (le_antisymm l.within h)

  -- rows of one element each
  pub fill_lays : {n : ℕ} {new : List A} {x : ℕ} → Filled f old new x → n ≤ x → length old ≡ n * 1 → new ≡ laid n (λ x. f x ∷ [])
  fill_lays {n} l h e =
      let long : length old ≡ n = omega arith in
      fill_ends l (omega arith) ∙ ap (λ (k : ℕ). listed k f) long ∙ sym (laid_singles n f)

-- ---- a list `new` that was `old`, after the first y of n rows of one width are written
pub record Stacked {A : Type 0} (row : ℕ → List A) (width n : ℕ) (old new : List A) (y : ℕ) : Type 0 where
  pub within : y ≤ n
  pub long : length new ≡ length old
  pub exact : new ≡ over (laid y row) old

-- k rows more. They come as a part that starts at `start`: a callee says what it leaves of the list, or what it leaves of a loan.
module _ {A : Type 0} (row : ℕ → List A) (width : ℕ) (wide : (y : ℕ) → length (row y) ≡ width) where
  put_rows :
      {n : ℕ} {old new newer : List A} {y : ℕ} (k : ℕ) {part : List A} {start span : ℕ} →
      Stacked row width n old new y → y + k ≤ n → n * width ≤ length old → start ≡ y * width → span ≡ k * width → part ≡ laid k (λ i. row (y + i)) →
      newer ≡ take start new ++ (part ++ drop (start + span) new) →
      Stacked row width n old newer (y + k)
  put_rows {n} {old} {new} {newer} {y} k {part} {start} {span} s h room at size e put =
      let front : length (laid y row) ≡ start = length_laid row width wide y ∙ sym at in
      let rows : length part ≡ span = ap length e ∙ length_laid (λ i. row (y + i)) width (λ i. wide (y + i)) k ∙ sym size in
      let whole : newer ≡ over (laid (y + k) row) old =
      put
      ∙ ap (λ (l : List A). take start l ++ (part ++ drop (start + span) l)) s.exact
      ∙ over_then (laid y row) part old start span front rows
      ∙ ap (λ (l : List A). over l old) (ap (λ (l : List A). laid y row ++ l) e ∙ sym (laid_further y k row)) in
      let fits : (y + k) * width ≤ length old = le_trans (mul-le-mul_right {m = y + k} {n = n} width h) room in
      record { within = h; long = ap length whole ∙ rw (length-append, length-drop, length_laid row width wide (y + k)) (omega arith); exact = whole }

  pub stacks_rows :
      {n : ℕ} {old new : List A} {y : ℕ} (k : ℕ) {part : List A} {start span : ℕ} →
      Stacked row width n old new y → y + k ≤ n → n * width ≤ length old → start ≡ y * width → span ≡ k * width → part ≡ laid k (λ i. row (y + i)) →
      Stacked row width n old (take start new ++ (part ++ drop (start + span - start) (drop start new))) (y + k)
  stacks_rows {n} {old} {new} {y} k {part} {start} {span} s h room at size e =
      put_rows k s h room at size e (ap (λ (rest : List A). take start new ++ (part ++ rest)) (behind_part start span new))

module _ {A : Type 0} {row : ℕ → List A} {width n : ℕ} {old : List A} (wide : (y : ℕ) → length (row y) ≡ width) where
  pub stack_starts : Stacked row width n old old 0
  unfolding laid
  stack_starts = record { within = omega arith; long = refl; exact = refl }

  -- one row more, as k of them
  pub stacks_part :
      {new newer part : List A} {y start : ℕ} →
      Stacked row width n old new y → y < n → n * width ≤ length old → start ≡ y * width → part ≡ row y →
      newer ≡ take start new ++ (part ++ drop (start + width) new) →
      Stacked row width n old newer (y + 1)
  unfolding laid
  stacks_part {new} {newer} {part} {y} s h room at e put =
      put_rows row width wide 1 s (omega arith) room at (sym (one-mul width)) (e ∙ ap row (sym (add-zero y))) put

  pub stacks :
      {new part : List A} {y start : ℕ} →
      Stacked row width n old new y → y < n → n * width ≤ length old → start ≡ y * width → part ≡ row y →
      Stacked row width n old (take start new ++ (part ++ drop (start + width - start) (drop start new))) (y + 1)
  stacks {new} {part} {y} {start} s h room at e =
      stacks_part s h room at e (ap (λ (rest : List A). take start new ++ (part ++ rest)) (behind_part start width new))

  pub stack_ends : {new : List A} {y : ℕ} → Stacked row width n old new y → n ≤ y → new ≡ over (laid n row) old
  stack_ends {new} {y} s h = s.exact ∙ ap (λ (k : ℕ). over (laid k row) old) (le_antisymm s.within h)

-- rows of two, written element after element
pub stacks_two :
    {A : Type 0} {row : ℕ → List A} {n : ℕ} {old new : List A} {y : ℕ} {a b : A} →
    ((y : ℕ) → length (row y) ≡ 2) → Stacked row 2 n old new y → y < n → n * 2 ≤ length old → a ∷ b ∷ [] ≡ row y →
    Stacked row 2 n old (set (set new (y * 2) a) (y * 2 + 1) b) (y + 1)
stacks_two {A} {row} {n} {old} {new} {y} {a} {b} wide s h room e =
    stacks_part wide s h room refl e (two_written new (y * 2) a b (omega (arith, s.long)))
