-- A row of a tile, as `expand` puts it together: the columns within the plane are read, and those past an edge repeat the last within.
use mathlib.Core.Path.{◌≡◌, sym, ◌∙◌, ap}
use mathlib.Core.List.{List, ◌++◌}
use mathlib.Core.Logic.{◌⊎◌, inl, inr, ⊎_elim}
use Prim.Native.Nat.{ℕ, zero, suc, ◌+◌, ◌-◌, ◌≤◌, ◌<◌, min}
use native.Mathlib.Nat.{eq-zero-or-pos, le_refl, lt_trans, lt_of_le_of_lt}
use native.Mathlib.Omega.{arith}
use borrow.Author.Tests.{lt-ltb, le-ltb}
use lib.IntN.{ℤ, pos, sub_ℕ, ◌+ℤ◌, ◌-ℤ◌}
use lib.ListN.{length, get_or, take, drop, replicate, length-append, length-drop, length-replicate, get_or-append}
use lib.Seq.{ext_get_or, length-take-le, get_or-append-add, get_or-take, get_or-drop}
use lib.Ieee.{Float, nan}
use Rattle.std.proofs.lemmas.List.{get_or-replicate}
use Rattle.laws.specs.Rows.{listed}
use Rattle.laws.proofs.Lists.{length_listed, listed_at, part_length}
use Rattle.plane.specs.declared.Shape.{Shape}
use Rattle.plane.specs.Plane.{value_of}
use Rattle.plane.specs.Coordinates.{held}
use Rattle.filter.specs.Filter.{Sampler}
use Rattle.fill.specs.Rows.{RowOf, Around, Trio, Motion, Under}
use Rattle.fill.specs.Lines.{Tiled}

-- ---- a list of which a part was lent, once `part` came back

pub record Spliced (new old part : List Float) (at to : ℕ) : Type 0 where
  pub size : length new ≡ length old
  pub under : (i : ℕ) → i < at → get_or new i nan ≡ get_or old i nan
  pub here : (i : ℕ) → i < to - at → get_or new (at + i) nan ≡ get_or part i nan
  pub over : (i : ℕ) → to ≤ i → get_or new i nan ≡ get_or old i nan

module _ (old part : List Float) (at to : ℕ) (low : at ≤ to) (high : to ≤ length old) (long : length part ≡ to - at) where
  abbrev rest : List Float
  rest = drop (to - at) (drop at old)

  abbrev all : List Float
  all = take at old ++ (part ++ rest)

  front : length (take at old) ≡ at
  front = length-take-le at old (omega arith)

  past : (i : ℕ) → get_or all (at + i) nan ≡ get_or (part ++ rest) i nan
  past i = ap (λ (n : ℕ). get_or all (n + i) nan) (sym front) ∙ get_or-append-add (take at old) (part ++ rest) i nan

  beyond : (i : ℕ) → to ≤ i → get_or all i nan ≡ get_or old i nan
  beyond i l =
      let n = i - to in
      let m = to - at + n in
      let e : at + m ≡ i = omega arith in
      let q : get_or (part ++ rest) m nan ≡ get_or rest n nan =
      ap (λ (k : ℕ). get_or (part ++ rest) (k + n) nan) (sym long) ∙ get_or-append-add part rest n nan in
      ap (λ (k : ℕ). get_or all k nan) (sym e)
      ∙ (past m ∙ (q ∙ (get_or-drop (to - at) (drop at old) n nan ∙ (get_or-drop at old m nan ∙ ap (λ (k : ℕ). get_or old k nan) e))))

  pub spliced : Spliced all old part at to
  spliced = record {
    size = simp (length-append, front, long, length-drop) (omega arith);
    under = λ i l. get_or-append (take at old) (part ++ rest) nan i (rw front l) ∙ get_or-take at old i nan l;
    here = λ i l. past i ∙ get_or-append part rest nan i (rw long l);
    over = beyond;
  }

-- of a part that was listed whole
pub lent_listed :
    (old : List Float) (at to : ℕ) {part : List Float} (f : ℕ → Float) → at ≤ to → to ≤ length old → part ≡ listed (length (take (to - at) (drop at old))) f →
    Spliced (take at old ++ (part ++ drop (to - at) (drop at old))) old part at to × (part ≡ listed (to - at) f)
lent_listed old at to {part} f low high e =
    let same : part ≡ listed (to - at) f = e ∙ ap (λ (n : ℕ). listed n f) (part_length old at (to - at) (omega arith)) in
    (spliced old part at to low high (ap length same ∙ length_listed (to - at) f), same)

-- a part of one value
pub filled : (n : ℕ) (v : Float) → replicate n v ≡ listed n (λ x. v)
filled n v =
    ext_get_or nan (replicate n v) (listed n (λ x. v)) (length-replicate n v ∙ sym (length_listed n (λ x. v)))
    (λ i h.
    let inside : i < n = omega (arith, h, length-replicate n v) in
    get_or-replicate n i v nan inside ∙ sym (listed_at n (λ x. v) i nan inside))

-- what a part holds that was listed
pub listed_here :
    {new old part : List Float} {at to : ℕ} (f : ℕ → Float) → Spliced new old part at to → part ≡ listed (to - at) f →
    (i : ℕ) → at ≤ i → i < to → get_or new i nan ≡ f (i - at)
listed_here {new} {old} {part} {at} {to} f s e i a b =
    let k : at + (i - at) ≡ i = omega arith in
    let l : i - at < to - at = omega arith in
    ap (λ (n : ℕ). get_or new n nan) (sym k) ∙ (s.here (i - at) l ∙ (ap (λ (p : List Float). get_or p (i - at) nan) e ∙ listed_at (to - at) f (i - at) nan l))

-- ---- a row of a plane

pub below_or_from : (m n : ℕ) → (m < n) ⊎ (n ≤ m)
below_or_from m n = ⊎_elim (λ e. inr (omega arith)) (λ l. inl (omega arith)) (eq-zero-or-pos (n - m))

-- a difference, held
held_difference : (size a b : ℕ) → held size (sub_ℕ a b) ≡ min (a - b) (size - 1)
held_difference size a b = ⊎_elim (λ l. simp (lt-ltb a b l) (none a b (size - 1) l)) (λ l. simp (le-ltb a b l)) (below_or_from a b)
  where
    none : (a b c : ℕ) → a < b → 0 ≡ min (a - b) c
    none a b c l = omega arith

held_held : (size : ℕ) (y : ℤ) (r : ℕ) → r < size → held size y ≡ r → held size (pos r) ≡ held size y
held_held size y r l e = omega arith

-- a sample by its coordinates as they are held
sample_as : (bytes : List ℕ) (s : Shape) (x x' y y' : ℤ) → held s.width x ≡ held s.width x' → held s.height y ≡ held s.height y' → value_of bytes s x y ≡ value_of bytes s x' y'
unfolding value_of
sample_as bytes s x x' y y' e d = simp (e, d)

-- the places in their order
pub in_order :
    (width from count start : ℕ) {first last : ℕ} → 1 ≤ count → from + count ≤ width → first ≡ start + (6 - from) →
    last ≡ start + (count + 12) - (from + count + 6 - width) → (start ≤ first) × (first < last) × (last ≤ start + (count + 12))
in_order width from count start some within at_first at_last = (omega arith, omega arith, omega arith)

below_last : {first last : ℕ} → first < last → (first ≤ last - 1) × (last - 1 < last)
below_last l = (omega arith, omega arith)

-- the first place that is read, and the place past the last where that is the plane's last column
first_is : (from start : ℕ) {first column : ℕ} → first ≡ start + (6 - from) → column ≡ from - 6 → first + from ≡ start + 6 + column
first_is from start at_first at-column = omega arith

last_is :
    (width from count start : ℕ) {last : ℕ} → from + count ≤ width → last ≡ start + (count + 12) - (from + count + 6 - width) →
    last < start + (count + 12) → last + from ≡ start + 6 + width
last_is width from count start within at_last l = omega arith

-- the columns past an edge are held in the last that is read
left_held : (from start i first width column : ℕ) → first ≡ start + (6 - from) → column ≡ from - 6 → start + i < first → min (column + (first - first)) (width - 1) ≡ min (from + i - 6) (width - 1)
left_held from start i first width column at_first at-column l =
    let a : column + (first - first) ≡ 0 = omega arith in
    let b : from + i - 6 ≡ 0 = omega arith in
    rw (a, b)

right_held :
    (width from start i first last column : ℕ) → first < last → last ≤ start + i → first + from ≡ start + 6 + column → last + from ≡ start + 6 + width →
    min (column + (last - 1 - first)) (width - 1) ≡ min (from + i - 6) (width - 1)
right_held width from start i first last column some l at_first at_last =
    let a : column + (last - 1 - first) ≡ width - 1 = omega arith in
    let b : width - 1 ≤ from + i - 6 = omega arith in
    rw a (same (width - 1) (from + i - 6) b)
  where
    same : (m n : ℕ) → m ≤ n → min m m ≡ min n m
    same m n l = omega arith

module _ (bytes : List ℕ) (s : Shape) (row from count start first last column : ℕ) (tiled : Tiled s row from count)
    (at_first : first ≡ start + (6 - from)) (at_last : last ≡ start + (count + 12) - (from + count + 6 - s.width)) (at-column : column ≡ from - 6)
    {old mid wide new inner left right : List Float}
    (a : Spliced mid old inner first last) (b : Spliced wide mid left start first) (c : Spliced new wide right last (start + (count + 12)))
    (inner-is : inner ≡ listed (last - first) (λ x. value_of bytes s (pos (column + x)) (pos row)))
    (left_is : left ≡ listed (first - start) (λ x. get_or mid first nan))
    (right_is : right ≡ listed (start + (count + 12) - last) (λ x. get_or mid (last - 1) nan)) where
  order : (start ≤ first) × (first < last) × (last ≤ start + (count + 12))
  order = in_order s.width from count start tiled.some tiled.within at_first at_last

  under : Under new old start
  under = record {
    size = c.size ∙ (b.size ∙ a.size);
    at = λ i l. c.under i (omega (arith, order)) ∙ (b.under i l ∙ a.under i (omega (arith, order)));
  }

  module _ (y : ℤ) (e : held s.height y ≡ row) where
    -- a place that was read, and the column that it stands for
    read :
        (k i : ℕ) → first ≤ k → k < last → min (column + (k - first)) (s.width - 1) ≡ min (from + i - 6) (s.width - 1) →
        get_or mid k nan ≡ value_of bytes s (sub_ℕ (from + i) 6) y
    read k i l m h =
        listed_here _ a inner-is k l m
        ∙ sample_as bytes s (pos (column + (k - first))) (sub_ℕ (from + i) 6) (pos row) y (h ∙ sym (held_difference s.width (from + i) 6))
        (held_held s.height y row tiled.row e)

    on_left : (i : ℕ) → start + i < first → get_or new (start + i) nan ≡ value_of bytes s (sub_ℕ (from + i) 6) y
    on_left i l =
        c.under (start + i) (lt_trans l order.1)
        ∙ (listed_here _ b left_is (start + i) (omega arith) l
        ∙ read first i (le_refl first) order.1 (left_held from start i first s.width column at_first at-column l))

    in_mid : (i : ℕ) → first ≤ start + i → start + i < last → get_or new (start + i) nan ≡ value_of bytes s (sub_ℕ (from + i) 6) y
    in_mid i l m =
        let same : column + (start + i - first) ≡ from + i - 6 = omega (arith, first_is from start at_first at-column) in
        c.under (start + i) m ∙ (b.over (start + i) l ∙ read (start + i) i l m (rw same))

    on_right : (i : ℕ) → last ≤ start + i → i < count + 12 → get_or new (start + i) nan ≡ value_of bytes s (sub_ℕ (from + i) 6) y
    on_right i l m =
        let end : start + i < start + (count + 12) = omega arith in
        let e = last_is s.width from count start tiled.within at_last (lt_of_le_of_lt l end) in
        let one_less = below_last order.1 in
        listed_here _ c right_is (start + i) l end
        ∙ read (last - 1) i one_less.0 one_less.1
        (right_held s.width from start i first last column order.1 l (first_is from start at_first at-column) e)

    expanded_row : RowOf new start from count y (value_of bytes s)
    expanded_row = record {
      at = λ i l. ⊎_elim (on_left i) (λ low. ⊎_elim (in_mid i low) (λ high. on_right i high l) (below_or_from (start + i) last)) (below_or_from (start + i) first);
    }

  pub expanded : ((y : ℤ) → held s.height y ≡ row → RowOf new start from count y (value_of bytes s)) × Under new old start
  expanded = (expanded_row, under)

-- ---- rows that were made stay where only later places are written

pub under_more : {new mid old : List Float} {upto from : ℕ} → Under new mid upto → Under mid old from → from ≤ upto → Under new old from
under_more a b l = record { size = a.size ∙ b.size; at = λ i m. a.at i (omega arith) ∙ b.at i m }

module _ {new old : List Float} {upto from count : ℕ} (u : Under new old upto) (few : count ≤ 512) {v : Sampler} where
  pub row_stays : {start : ℕ} {y : ℤ} → start + 524 ≤ upto → RowOf old start from count y v → RowOf new start from count y v
  row_stays {start} l r = record { at = λ i m. u.at (start + i) (omega arith) ∙ r.at i m }

  pub around_stays : {start : ℕ} {y off : ℤ} → start + 1048 ≤ upto → Around old start from count y off v → Around new start from count y off v
  around_stays l r = record { up = row_stays (omega arith) r.up; down = row_stays (omega arith) r.down }

  pub trio_stays : {start : ℕ} {y : ℤ} → start + 1572 ≤ upto → Trio old start from count y v → Trio new start from count y v
  trio_stays l r = record { near = around_stays (omega arith) r.near; mid = row_stays (omega arith) r.mid }

pub motion_stays :
    {new old : List Float} {from count : ℕ} {y : ℤ} {before cur after : Sampler} → Under new old 4192 → count ≤ 512 →
    Motion old from count y before cur after → Motion new from count y before cur after
motion_stays u few m = record {
  near = around_stays u few (omega arith) m.near;
  past = trio_stays u few (omega arith) m.past;
  coming = trio_stays u few (omega arith) m.coming;
}

-- ---- the rows above and below, as the code counts them

pub held_up : (size y k : ℕ) → y < size → held size (pos y -ℤ pos k) ≡ y - k
held_up size y zero l = omega arith
held_up size y (suc k) l = held_difference size y (suc k) ∙ within size y k l
  where
    within : (size y k : ℕ) → y < size → min (y - suc k) (size - 1) ≡ y - suc k
    within size y k l = omega arith

pub held_here : (size y : ℕ) → y < size → held size (pos y) ≡ y
held_here size y l = omega arith

pub held_down : (size y k : ℕ) → held size (pos y +ℤ pos k) ≡ min (y + k) (size - 1)
held_down size y k = omega arith
