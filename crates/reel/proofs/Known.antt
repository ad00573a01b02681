-- No push of a file of bytes is refused, since its frames are few and its pictures fit the store; so what ends it is a test of a unit, whose
-- number docs/RULES.md lists.
use Prim.Native.Nat.{ℕ, zero, suc, ◌+◌, ◌-◌, ◌*◌, ◌≤◌, ◌<◌}
use native.Mathlib.Nat.{le_refl, le_trans, mul-le-mul, suc-mul}
use native.Mathlib.Omega.{arith}
use mathlib.Core.Path.{◌≡◌, refl, sym, ◌∙◌}
use mathlib.Core.Bool.{Bool, true, false, cond, ◌||◌, true≢false}
use mathlib.Core.List.{List, [], ◌∷◌}
use Rattle.std.specs.Prelude.{Option, Some, None}
use Rattle.std.specs.Option.{is_some}
use lib.Dec.{eqb, leb}
use lib.ListN.{length, take, drop, get_or, length-take, length-replicate}
use lib.Seq.{get_or-take, get_or-drop}
use borrow.Author.Tests.{le-leb, lt-ltb, leb-true, ne_eqb}
use Rattle.laws.specs.Refusal.{lowest}
use Rattle.laws.proofs.Rows.{length_over}
use Rattle.field.specs.declared.Parity.{Parity}
use Rattle.field.specs.Field.{parity_named}
use Rattle.plane.specs.declared.Shape.{Shape}
use Rattle.plane.specs.Plane.{components, row_bytes, plane_bytes, good_shape, grid_shape}
use Rattle.plane.proofs.Bounds.{good_within}
use Rattle.block.specs.Block.{kept_frame}
use Rattle.telecine.specs.declared.Measured.{Measured}
use Rattle.telecine.specs.Detector.{kept_bytes}
use Rattle.telecine.specs.History.{State, Push, picture, measured, push, number_in, cadence_in, next}
use Rattle.telecine.proofs.Stored.{kept_long}
use Rattle.entry.specs.Entry.{word_at, entry_of, good_entry, measured_in, push_in}
use Rattle.reel.specs.declared.Pictured.{Pictured}
use Rattle.reel.specs.declared.Tally.{Tally}
use Rattle.reel.specs.declared.Said.{Said}
use Rattle.reel.specs.Reel.{shape_in, pictured_in, shown, shape_count_tests, shape_tests, entry_tests, picture_bytes, picture_count_tests, no_frames, tallied}
use Rattle.reel.specs.Reel.{whole, judged, frame, pictures, picture_section, entries, fresh_state, entry_section, shape_section, said_of}
use Rattle.reel.specs.Claims.{Bytes, all_known, FaultsKnown}
use Rattle.reel.proofs.Turns.{one_less}
use Rattle.reel.proofs.Counted.{counted}
use Rattle.reel.proofs.Fine.{some_components, some_bytes, given_if}

-- ---- numbers of 16 bits
rest_bytes : (bytes : List ℕ) (k : ℕ) → Bytes bytes → Bytes (drop k bytes)
rest_bytes bytes k all i = rw (get_or-drop k bytes i 0) (all (k + i))

small_word : (bytes : List ℕ) → Bytes bytes → word_at (take 2 bytes) 0 ≤ 65535
small_word bytes all =
    let low : get_or (take 2 bytes) 0 0 < 256 = rw (get_or-take 2 bytes 0 0 (omega arith)) (all 0) in
    let high : get_or (take 2 bytes) 1 0 < 256 = rw (get_or-take 2 bytes 1 0 (omega arith)) (all 1) in
    omega arith

-- ---- lists of which all is known
record Known (said : List Said) : Type 0 where
  all : all_known said ≡ true

pick : (b : Bool) {x y : List Said} → (b ≡ true → Known x) → Known y → Known (cond b x y)
pick true p q = p refl
pick false p q = q

whole_known : (k : ℕ) (more : List ℕ → List ℕ → List Said) (bytes : List ℕ)
    → (k ≤ length bytes → Known (more (take k bytes) (drop k bytes)))
    → Known (whole k more bytes)
unfolding whole
whole_known k more bytes h = pick (leb k (length bytes)) (λ e. h (leb-true _ _ e)) (record { all = refl })

judged_3 : (a : Bool) {more : List Said} → (a ≡ true → Known more) → Known (judged ((3, a) ∷ []) more)
unfolding lowest
judged_3 true h = h refl
judged_3 false h = record { all = refl }

judged_34 : (a b : Bool) {more : List Said} → (b ≡ true → Known more) → Known (judged ((3, a) ∷ (4, b) ∷ []) more)
unfolding lowest
judged_34 true true h = h refl
judged_34 true false h = record { all = refl }
judged_34 false b h = record { all = refl }

judged_37 : (a b : Bool) {more : List Said} → (a ≡ true → b ≡ true → Known more) → Known (judged ((3, a) ∷ (7, b) ∷ []) more)
unfolding lowest
judged_37 true true h = h refl refl
judged_37 true false h = record { all = refl }
judged_37 false b h = record { all = refl }

frame_known : (state : State) (t : Tally) (u : Push) (more : State → Tally → List Said) → number_in state u ≡ 0
    → Known (more (next state (push u)) (tallied (cadence_in state u) t))
    → Known (frame state t u more)
frame_known state t u more e h = record { all = rw e h.all }

-- ---- a state after which at most `left` frames come, and whose kept frame and store are those of a reel
record Small (state : State) (left : ℕ) : Type 0 where
  few : state.detector.lock.course.taken + left ≤ 131070
  long : length state.store ≡ 16384
  kept : kept_bytes state.detector.kept ≤ 16384

fewer_left : {state : State} {m : ℕ} (n : ℕ) → Small state m → n ≤ m → Small state n
fewer_left n s h = record { few = omega (arith, s.few); long = s.long; kept = s.kept }

-- an entry is taken
module _ (state : State) (first : Parity) (m : Option Measured) (n : ℕ) (s : Small state (suc n)) where
  entry_taken : number_in state (measured first m) ≡ 0
  unfolding lowest
  entry_taken = rw (lt-ltb state.detector.lock.course.taken 4000000000 (omega (arith, s.few)))

  small_after_entry : Small (next state (push (measured first m))) n
  small_after_entry = record {
    few = omega (arith, s.few, (counted state (measured first m) entry_taken).0);
    long = s.long;
    kept = rw entry_taken s.kept;
  }

-- ---- a picture is taken: it is within the bounds and fits the store
record Fits (p : Option Pictured) : Type 0 where
  good : good_shape (grid_shape (shown p).shape) ≡ true
  small : picture_bytes p ≤ 16384

rows_fit : (h stride row : ℕ) → 1 ≤ h → row ≤ stride → (h - 1) * stride + row ≤ h * stride
rows_fit zero stride row a b = absurd (omega arith)
rows_fit (suc h) stride row a b = rw (one_less h, suc-mul h stride) (omega arith)

wide_fits : (s : Shape) → s.width ≤ row_bytes s
wide_fits s =
    let lane : s.width * 1 ≤ s.width * components s.layout = mul-le-mul (le_refl s.width) (some_components s.layout) in
    let row : s.width * 1 * 1 ≤ row_bytes s = mul-le-mul lane (some_bytes (leb s.depth 8)) in
    omega arith

module _ (state : State) (p : Option Pictured) (u : List ℕ) (n : ℕ) (fits : Fits p) (read : picture_bytes p ≤ length u) (s : Small state (suc n)) where
  plane_fits : plane_bytes (grid_shape (shown p).shape) ≤ length u
  plane_fits =
      let w = good_within (grid_shape (shown p).shape) fits.good in
      le_trans (rows_fit (shown p).shape.height (shown p).shape.stride (row_bytes (grid_shape (shown p).shape)) w.height_least w.row_fits) read

  frame_fits : (shown p).shape.height * (shown p).shape.width ≤ 16384
  frame_fits =
      let w = good_within (grid_shape (shown p).shape) fits.good in
      let all : (shown p).shape.height * (shown p).shape.width ≤ (shown p).shape.height * (shown p).shape.stride =
      mul-le-mul (le_refl (shown p).shape.height) (le_trans (wide_fits (grid_shape (shown p).shape)) w.row_fits) in
      le_trans all fits.small

  abbrev pushed : Push
  pushed = picture u (grid_shape (shown p).shape) (shown p).first

  picture_taken : number_in state pushed ≡ 0
  unfolding lowest
  picture_taken =
      rw (
        s.long,
        fits.good,
        le-leb (plane_bytes (grid_shape (shown p).shape)) (length u) plane_fits,
        le-leb (kept_bytes state.detector.kept) 16384 s.kept,
        le-leb ((shown p).shape.height * (shown p).shape.width) 16384 frame_fits,
        lt-ltb state.detector.lock.course.taken 4000000000 (omega (arith, s.few)),
      )

  store_long : length (next state (push pushed)).store ≡ 16384
  store_long =
      rw picture_taken
      (length_over (kept_frame u (grid_shape (shown p).shape)) state.store (rw (kept_long u (grid_shape (shown p).shape), s.long) frame_fits) ∙ s.long)

  small_after_picture : Small (next state (push pushed)) n
  small_after_picture = record {
    few = omega (arith, s.few, (counted state pushed picture_taken).0);
    long = store_long;
    kept = rw picture_taken frame_fits;
  }

-- ---- the sections, from the last
whole_unit : (k : ℕ) (bytes : List ℕ) → k ≤ length bytes → k ≤ length (take k bytes)
whole_unit k bytes h = simp length-take (omega arith)

pictures_known : (n : ℕ) (p : Option Pictured) (state : State) (t : Tally) (bytes : List ℕ) → (0 < n → Fits p) → Small state n
    → Known (pictures n p state t bytes)
unfolding pictures
pictures_known zero p state t bytes fits s = pick (eqb (length bytes) 0) (λ _. record { all = refl }) (record { all = refl })
pictures_known (suc n) p state t bytes fits s =
    let k = picture_bytes p in
    let u = take k bytes in
    let f = fits (omega arith) in
    whole_known k (λ u rest. frame state t (picture u (grid_shape (shown p).shape) (shown p).first) (λ after v. pictures n p after v rest)) bytes
    (λ long.
    let read = whole_unit k bytes long in
    frame_known state t (picture u (grid_shape (shown p).shape) (shown p).first) (λ after v. pictures n p after v (drop k bytes)) (picture_taken state p u n f read s)
    (pictures_known n p _ _ (drop k bytes) (λ _. f) (small_after_picture state p u n f read s)))

-- a shape that is given is within the bounds
abbrev Good : Option Pictured → Type 0
Good p = is_some p ≡ true → good_shape (grid_shape (shown p).shape) ≡ true

none_good : Good None
none_good given = absurd (true≢false (sym given))

count_fits : (p : Option Pictured) (n : ℕ) → Good p → (eqb n 0 || is_some p) ≡ true → (eqb n 0 || leb (picture_bytes p) 16384) ≡ true → 0 < n → Fits p
count_fits p n good a b some =
    let counted = ne_eqb n 0 (λ z. omega arith) in
    record { good = good (given_if (eqb n 0) (is_some p) counted a); small = leb-true _ _ (given_if (eqb n 0) (leb (picture_bytes p) 16384) counted b) }

picture_section_known : (p : Option Pictured) (state : State) (t : Tally) (bytes : List ℕ) → Bytes bytes → Good p → Small state 65535
    → Known (picture_section p state t bytes)
unfolding picture_section
picture_section_known p state t bytes all good s =
    let n = word_at (take 2 bytes) 0 in
    whole_known 2 (λ u rest. judged (picture_count_tests p (word_at u 0)) (pictures (word_at u 0) p state t rest)) bytes
    (λ _.
    judged_37 (eqb n 0 || is_some p) (eqb n 0 || leb (picture_bytes p) 16384)
    (λ a b. pictures_known n p state t (drop 2 bytes) (count_fits p n good a b) (fewer_left n s (small_word bytes all))))

entries_known : (n : ℕ) (p : Option Pictured) (state : State) (t : Tally) (bytes : List ℕ) → Bytes bytes → Good p → Small state (n + 65535)
    → Known (entries n p state t bytes)
unfolding entries
entries_known zero p state t bytes all good s = picture_section_known p state t bytes all good (fewer_left 65535 s (omega arith))
entries_known (suc n) p state t bytes all good s =
    let u = take 12 bytes in
    let entry = push_in (entry_of u) in
    let first = parity_named (entry_of u).parity in
    let r = fewer_left (suc (n + 65535)) s (omega arith) in
    whole_known 12 (λ u rest. judged (entry_tests u) (frame state t (push_in (entry_of u)) (λ after v. entries n p after v rest))) bytes
    (λ _.
    judged_3 (good_entry (entry_of u))
    (λ _.
    frame_known state t entry (λ after v. entries n p after v (drop 12 bytes)) (entry_taken state first (measured_in (entry_of u)) (n + 65535) r)
    (entries_known n p (next state (push entry)) (tallied (cadence_in state entry) t) (drop 12 bytes) (rest_bytes bytes 12 all) good
    (small_after_entry state first (measured_in (entry_of u)) (n + 65535) r))))

entry_section_known : (p : Option Pictured) (bytes : List ℕ) → Bytes bytes → Good p → Known (entry_section p bytes)
unfolding entry_section
entry_section_known p bytes all good =
    let n = word_at (take 2 bytes) 0 in
    whole_known 2 (λ u rest. entries (word_at u 0) p fresh_state no_frames rest) bytes
    (λ _.
    entries_known n p fresh_state no_frames (drop 2 bytes) (rest_bytes bytes 2 all) good
    (record { few = omega (arith, small_word bytes all); long = length-replicate {A = ℕ} 16384 0; kept = omega arith }))

shape_section_known : (n : ℕ) (bytes : List ℕ) → Bytes bytes → Known (shape_section n bytes)
unfolding shape_section
shape_section_known n bytes all =
    let u = take 10 bytes in
    pick (eqb n 0) (λ _. entry_section_known None bytes all none_good)
    (whole_known 10 (λ u rest. judged (shape_tests u) (entry_section (Some (pictured_in u)) rest)) bytes
    (λ _.
    judged_34 (leb (word_at u 8) 1) (good_shape (grid_shape (shape_in u)))
    (λ good. entry_section_known (Some (pictured_in u)) (drop 10 bytes) (rest_bytes bytes 10 all) (λ _. good))))

pub faults_known : FaultsKnown
unfolding said_of
faults_known bytes all =
    let n = word_at (take 2 bytes) 0 in
    let known =
    whole_known 2 (λ u rest. judged (shape_count_tests (word_at u 0)) (shape_section (word_at u 0) rest)) bytes
    (λ _. judged_3 (eqb n 0 || eqb n 5) (λ _. shape_section_known n (drop 2 bytes) (rest_bytes bytes 2 all))) in
    known.all
