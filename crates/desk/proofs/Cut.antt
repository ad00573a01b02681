-- The code holds shapes whose numbers are cut to their places (crate `numbers`). No call's answer changes by it.
use Prim.Native.Nat.{ℕ, min}
use mathlib.Core.Path.{◌≡◌, ap, ◌∙◌}
use mathlib.Core.Bool.{Bool, true, ◌&&◌}
use mathlib.Core.List.{List, [], ◌∷◌}
use lib.Dec.{leb, lit<}
use lib.IntN.{ℤ}
use lib.Ieee.{Float}
use lib.ListN.{length}
use Rattle.std.proofs.Common.{Result, Ok, Err}
use Rattle.laws.proofs.Bools.{halves}
use Rattle.laws.specs.Refusal.{lowest, when_done, written}
use Rattle.laws.proofs.Refusal.{first_passes, rest_passes, lowest_behind, lowest_alike, lowest_halves, written_alike, number_behind, done_writes, none_keeps}
use Rattle.refusal.specs.declared.Refusal.{Refusal}
use Rattle.refusal.specs.Refusal.{no_of, values_of}
use Rattle.plane.specs.declared.Shape.{Shape}
use Rattle.plane.specs.declared.Layout.TheVariants.{Planar}
use Rattle.plane.specs.Plane.{good_shape, plane_bytes}
use Rattle.plane.specs.Coordinates.{in_reach, inside}
use Rattle.plane.specs.Answer.{read_tests, at_tests}
use Rattle.filter.specs.declared.Making.{Making}
use Rattle.filter.specs.Making.{planes_good, sample_in}
use Rattle.filter.specs.Answer.{planes_tests, sample_tests}
use Rattle.fill.specs.Fill.{plane_tests}
use Rattle.comb.specs.Comb.{plane_comb}
use Rattle.comb.specs.Answer.{comb_tests, comb_no}
use Rattle.numbers.specs.declared.PlaneNumbers.{PlaneNumbers}
use Rattle.numbers.specs.Numbers.{shape_named}
use Rattle.numbers.specs.Inner.{cut}
use Rattle.numbers.proofs.Cut.{cut_same, cut_good}
use Rattle.desk.specs.Inner.{cut_planes}
use Rattle.desk.specs.Planes.{code_no, at_no}

-- ---- another call's answer, handed on: its number, and what it leaves in a lent place
abbrev pub left_by : {A : Type 0} → Result A Refusal → A → A
left_by (Ok value) old = value
left_by (Err refused) old = old

pub record Hands {A : Type 0} (r : Result A Refusal) (n : ℕ) (value old : A) : Type 0 where
  pub number : no_of r ≡ n
  pub place : left_by r old ≡ written n value old

hands : {A : Type 0} (r : Result A Refusal) {n : ℕ} (value old : A) → no_of r ≡ n → values_of r ≡ when_done n value → Hands r n value old
hands (Ok found) value old e f = record { number = e; place = (done_writes value old e f).1 }
hands (Err refused) {n} value old e f = record { number = e; place = none_keeps n value f value old }

-- the tests behind the first
abbrev behind : List (ℕ × Bool) → List (ℕ × Bool)
behind [] = []
behind (test ∷ tests) = tests

-- ---- the reads of one plane: 3 twice, of the layout's code and of the coordinates, then 4
module _ (layout coordinates : Bool) (s : Shape) (bytes : ℕ) where
  abbrev read_no : Shape → ℕ
  read_no t = lowest ((3, layout) ∷ read_tests coordinates t bytes)

  pub read_number : read_no (cut s) ≡ read_no s
  read_number =
      lowest_behind 3 layout _ _
      (lowest_behind 3 coordinates _ _ (lowest_alike 4 _ _ (cut_good s) (λ g. ap (λ (t : Shape). lowest (behind (read_tests coordinates t bytes))) (cut_same s g))))

  pub read_good : read_no s ≡ 0 → good_shape s ≡ true
  read_good z = first_passes 4 _ _ (lit< tt) (rest_passes 3 _ _ (lit< tt) (rest_passes 3 _ _ (lit< tt) z))

  pub read_value : {A : Type 0} (value : Shape → A) (old : A) → written (read_no s) (value (cut s)) old ≡ written (read_no s) (value s) old
  read_value value old = written_alike (read_no s) old (λ z. ap value (cut_same s (read_good z)))

pub reads_on :
    {A : Type 0} (value : Shape → ℤ → ℤ → A) (n : PlaneNumbers) (bytes : ℕ) (x y : ℤ) (r : Result A Refusal) (old : A) {held : Shape} {x' y' : ℤ} →
    leb n.layout 3 ≡ true → held ≡ cut (shape_named n) → x' ≡ x → y' ≡ y →
    no_of r ≡ lowest (at_tests held bytes x' y') → values_of r ≡ when_done (lowest (at_tests held bytes x' y')) (value held x' y') →
    Hands r (at_no n bytes x y) (value (shape_named n) x y) old
reads_on value n bytes x y r old named e p q number values =
    let layout = leb n.layout 3 in
    let inner = in_reach x && in_reach y in
    let same = number_behind 3 named (λ i. at_tests (e i) bytes (p i) (q i)) ∙ read_number layout inner (shape_named n) bytes in
    let h = hands r (value (cut (shape_named n)) x y) old (number ∙ same) (values ∙ (λ i. when_done (same i) (value (e i) (p i) (q i)))) in
    record { number = h.number; place = h.place ∙ read_value layout inner (shape_named n) bytes (λ (s : Shape). value s x y) old }

-- what is judged by the cut shape, and by coordinates as the machine holds them, is the same of what the host gave
pub codes_on :
    (n : PlaneNumbers) (bytes : ℕ) (x y : ℤ) {column row good long : Bool} →
    column ≡ inside n.width x → row ≡ inside n.height y → good ≡ good_shape (cut (shape_named n)) → long ≡ leb (plane_bytes (cut (shape_named n))) bytes →
    lowest ((3, leb n.layout 3 && (column && row)) ∷ (4, good) ∷ (6, long) ∷ []) ≡ code_no n bytes x y
codes_on n bytes x y p q g l =
    (λ i. lowest ((3, leb n.layout 3 && (p i && q i)) ∷ (4, g i) ∷ (6, l i) ∷ []))
    ∙ lowest_halves 3 (leb n.layout 3) (inside n.width x && inside n.height y) _
    ∙ read_number (leb n.layout 3) (inside n.width x && inside n.height y) (shape_named n) bytes

-- ---- three planes, of which 4 is judged together
module _ (m : Making) where
  planes_good_lem : planes_good (cut_planes m) ≡ planes_good m
  planes_good_lem i = cut_good m.before i && cut_good m.cur i && cut_good m.after i

  planes_same : planes_good m ≡ true → cut_planes m ≡ m
  planes_same g =
      let first = halves (good_shape m.before && good_shape m.cur) (good_shape m.after) g in
      let second = halves (good_shape m.before) (good_shape m.cur) first.0 in
      λ i. record {
        quality = m.quality;
        rows = m.rows;
        before = cut_same m.before second.0 i;
        cur = cut_same m.cur second.1 i;
        after = cut_same m.after first.1 i;
      }

  module _ (named : Bool) (before cur after : ℕ) (x y : ℤ) where
    abbrev sample_no : Making → ℕ
    sample_no making = lowest ((3, named) ∷ sample_tests making before cur after x y)

    pub sample_number : sample_no (cut_planes m) ≡ sample_no m
    sample_number =
        lowest_behind 3 named _ _
        (lowest_behind 3 _ _ _ (lowest_alike 4 _ _ planes_good_lem (λ g. ap (λ (making : Making). lowest (planes_tests making before cur after)) (planes_same g))))

    pub sample_same : sample_no m ≡ 0 → cut_planes m ≡ m
    sample_same z = planes_same (first_passes 4 _ _ (lit< tt) (rest_passes 3 _ _ (lit< tt) (rest_passes 3 _ _ (lit< tt) z)))

  pub samples_on :
      (named : Bool) (before cur after : List ℕ) (x y : ℤ) (r : Result Float Refusal) (old : Float) {held : Making} {x' y' : ℤ} →
      named ≡ true → held ≡ cut_planes m → x' ≡ x → y' ≡ y →
      no_of r ≡ lowest (sample_tests held (length before) (length cur) (length after) x' y') →
      values_of r ≡ when_done (no_of r) (sample_in held before cur after x' y') →
      Hands r (sample_no named (length before) (length cur) (length after) x y m) (sample_in m before cur after x y) old
  samples_on named before cur after x y r old t e p q number values =
      let same =
      number
      ∙ number_behind 3 t (λ i. sample_tests (e i) (length before) (length cur) (length after) (p i) (q i))
      ∙ sample_number named (length before) (length cur) (length after) x y in
      let h = hands r (sample_in (cut_planes m) before cur after x y) old same (values ∙ (λ i. when_done (same i) (sample_in (e i) before cur after (p i) (q i)))) in
      record {
        number = h.number;
        place =
            h.place
            ∙ written_alike (sample_no named (length before) (length cur) (length after) x y m) old
            (λ z.
            ap (λ (making : Making). sample_in making before cur after x y)
            (sample_same named (length before) (length cur) (length after) x y z));
      }

  module _ (named : Bool) (before cur after room : ℕ) where
    abbrev plane_no : Making → ℕ
    plane_no making = lowest ((3, named) ∷ plane_tests making before cur after room)

    pub plane_number : plane_no (cut_planes m) ≡ plane_no m
    plane_number =
        lowest_behind 3 named _ _
        (lowest_behind 3 _ _ _
        (lowest_alike 4 _ _ planes_good_lem (λ g. ap (λ (making : Making). lowest (behind (plane_tests making before cur after room))) (planes_same g))))

    pub plane_same : plane_no m ≡ 0 → cut_planes m ≡ m
    plane_same z = planes_same (first_passes 4 _ _ (lit< tt) (rest_passes 3 _ _ (lit< tt) (rest_passes 3 _ _ (lit< tt) z)))

-- ---- comb, which takes four numbers of a planar shape
module _ (width height depth stride bytes : ℕ) where
  abbrev planar : Shape
  planar = record { width = width; height = height; depth = depth; stride = stride; layout = Planar }

  pub comb_number : comb_no (min width 65535) (min height 65535) (min depth 255) stride bytes ≡ comb_no width height depth stride bytes
  comb_number =
      lowest_alike 4 _ _ (cut_good planar)
      (λ g. ap (λ (s : Shape). lowest (comb_tests s.width s.height s.depth s.stride bytes)) (cut_same planar g))

  pub comb_value :
      {A : Type 0} (value : ℕ → ℕ → ℕ → A) (old : A) →
      written (comb_no width height depth stride bytes) (value (min width 65535) (min height 65535) (min depth 255)) old
      ≡ written (comb_no width height depth stride bytes) (value width height depth) old
  comb_value value old =
      written_alike (comb_no width height depth stride bytes) old
      (λ z. ap (λ (s : Shape). value s.width s.height s.depth) (cut_same planar (first_passes 4 _ _ (lit< tt) z)))

pub combs_on :
    (plane : List ℕ) (width height depth stride : ℕ) (r : Result ℕ Refusal) (old : ℕ) {columns rows bits : ℕ} →
    columns ≡ min width 65535 → rows ≡ min height 65535 → bits ≡ min depth 255 →
    no_of r ≡ comb_no columns rows bits stride (length plane) →
    values_of r ≡ when_done (comb_no columns rows bits stride (length plane)) (plane_comb plane columns rows bits stride) →
    Hands r (comb_no width height depth stride (length plane)) (plane_comb plane width height depth stride) old
combs_on plane width height depth stride r old c w b number values =
    let same = (λ i. comb_no (c i) (w i) (b i) stride (length plane)) ∙ comb_number width height depth stride (length plane) in
    let h =
    hands r (plane_comb plane (min width 65535) (min height 65535) (min depth 255) stride) old (number ∙ same)
    (values ∙ (λ i. when_done (same i) (plane_comb plane (c i) (w i) (b i) stride))) in
    record {
      number = h.number;
      place = h.place ∙ comb_value width height depth stride (length plane) (λ (w h d : ℕ). plane_comb plane w h d stride) old;
    }
