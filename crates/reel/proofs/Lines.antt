-- What is said of each frame is what demand 3 says of it: as long as frames are said, none was refused, so that detector and store are those
-- after the frames of the file up to there. Section after section, from the last.
use Prim.Native.Nat.{ℕ, zero, suc, ◌+◌, ◌-◌, ◌*◌, ◌<◌}
use native.Mathlib.Nat.{mul-zero, mul-suc}
use native.Mathlib.Omega.{arith}
use mathlib.Core.Path.{◌≡◌, refl, ap, sym, subst, ◌∙◌}
use mathlib.Core.Bool.{Bool, true, false, cond}
use mathlib.Core.List.{List, [], ◌∷◌}
use Rattle.std.specs.Prelude.{Option, Some, None}
use lib.Dec.{eqb, leb}
use lib.ListN.{length, take, drop, get_or, replicate}
use lib.Seq.{get_or-take, drop-drop}
use borrow.Author.Tests.{eqb-true, lt-ltb, le-ltb}
use Rattle.laws.specs.Refusal.{lowest}
use Rattle.plane.specs.Plane.{grid_shape}
use Rattle.pulldown.specs.Lock.{locked_of}
use Rattle.telecine.specs.History.{State, Push, picture, push, number_in, cadence_in, next, after, frames_of, taken}
use Rattle.telecine.proofs.Claims.{third_demand, refusal_known, locked_says}
use Rattle.telecine.proofs.Reached.{frames_known, any_reached}
use Rattle.entry.specs.Entry.{word_at, entry_of, push_in}
use Rattle.entry.proofs.Entries.{entry_within}
use Rattle.reel.specs.declared.Pictured.{Pictured}
use Rattle.reel.specs.declared.Tally.{Tally}
use Rattle.reel.specs.declared.Said.{Said}
use Rattle.reel.specs.declared.Said.TheVariants.{Quiet, Frame, Totals, Fault}
use Rattle.reel.specs.Reel.{shape_in, pictured_in, shown, shape_count_tests, shape_tests, entry_tests, picture_bytes, picture_count_tests, no_frames}
use Rattle.reel.specs.Reel.{whole, judged, frame, pictures, picture_section, entries, fresh_state, entry_section, shape_section, said_of}
use Rattle.reel.specs.Frames.{entry_count, entries_in, pictures_in, frame_in, frame_at, frames_before}
use Rattle.reel.specs.Claims.{Demanded, LinesDemanded}

module _ (frames : ℕ → Push) where
  -- ---- what is said from place k on
  abbrev Line : ℕ → Said → Type 0
  Line k Quiet = Unit {0}
  Line k (Frame n c locked) = Demanded frames k n c locked
  Line k (Totals t) = Unit {0}
  Line k (Fault why) = Unit {0}

  abbrev Lines : ℕ → List Said → Type 0
  Lines k [] = Unit {0}
  Lines k (said ∷ more) = Line k said × Lines (suc k) more

  record From (k : ℕ) (said : List Said) : Type 0 where
    lines : Lines k said

  line_at : (said : List Said) (k i at : ℕ) → at ≡ k + i → Lines k said → Line at (get_or said i Quiet)
  line_at [] k i at e all = tt
  line_at (said ∷ more) k zero at e all = let same : at ≡ k = omega arith in rw same all.0
  line_at (said ∷ more) k (suc i) at e all = line_at more (suc k) i at (omega arith) all.1

  pick : (k : ℕ) (b : Bool) {x y : List Said} → (b ≡ true → From k x) → From k y → From k (cond b x y)
  pick k true p q = p refl
  pick k false p q = q

  fault : (k n : ℕ) → From k (Fault n ∷ [])
  fault k why = record { lines = (tt, tt) }

  whole_from : (k n : ℕ) (more : List ℕ → List ℕ → List Said) (bytes : List ℕ) → From k (more (take n bytes) (drop n bytes))
      → From k (whole n more bytes)
  unfolding whole
  whole_from k n more bytes h = pick k (leb n (length bytes)) (λ _. h) (fault k 6)

  judged_from : (k : ℕ) (tests : List (ℕ × Bool)) {more : List Said} → From k more → From k (judged tests more)
  judged_from k tests h = pick k (eqb (lowest tests) 0) (λ _. h) (fault k (lowest tests))

  -- ---- the state that frame k is pushed to
  frames_before_lem : (k : ℕ) → frames_of (frames_before frames k) ≡ k
  unfolding frames_before
  frames_before_lem zero = refl
  frames_before_lem (suc k) = ap suc (frames_before_lem k)

  module _ (store : List ℕ) where
    record Come (state : State) (k : ℕ) : Type 0 where
      is : state ≡ after store (frames_before frames k)
      all : taken (length store) (frames_before frames k) ≡ frames_before frames k

    come_fresh : Come (after store []) 0
    unfolding frames_before
    come_fresh = record { is = refl; all = refl }

    abbrev reached : ℕ → State
    reached k = after store (frames_before frames k)

    module _ (k : ℕ) (all : taken (length store) (frames_before frames k) ≡ frames_before frames k) (done : number_in (reached k) (frames k) ≡ 0) where
      none-refused : taken (length store) (frames_before frames (suc k)) ≡ frames_before frames (suc k)
      unfolding frames_before
      none-refused = rw (← (refusal_known store (frames k) (frames_before frames k)), done, all)

      abbrev locked : Bool
      locked = locked_of (next (reached k) (push (frames k))).detector.lock

      demanded : Demanded frames k (reached k).detector.lock.course.taken (cadence_in (reached k) (frames k)) locked
      unfolding frames_before
      demanded =
          let number : (reached k).detector.lock.course.taken ≡ frames_of (frames_before frames k) =
          rw all at (frames_known (length store) (reached k) _ (any_reached store (frames_before frames k))) in
          record {
            number = number ∙ frames_before_lem k;
            before = frames_before_lem k;
            third = rw number (rw all at (third_demand store (frames k) (frames_before frames k) done));
            lock = rw none-refused at (locked_says store (frames_before frames (suc k)));
          }

    -- a frame
    module _ (k : ℕ) (t : Tally) (more : State → Tally → List Said) where
      abbrev Rest : State → Type 0
      Rest state = (v : Tally) → Come (next state (push (frames k))) (suc k) → From (suc k) (more (next state (push (frames k))) v)

      frame-now : taken (length store) (frames_before frames k) ≡ frames_before frames k → Rest (reached k) → From k (frame (reached k) t (frames k) more)
      unfolding frames_before
      frame-now all rest =
          pick k (eqb (number_in (reached k) (frames k)) 0)
          (λ e.
          let done = eqb-true _ _ e in
          record { lines = (demanded k all done, (rest _ (record { is = refl; all = none-refused k all done })).lines) })
          (fault k (number_in (reached k) (frames k)))

      frame-from : (state : State) (u : Push) → u ≡ frames k → Come state k
          → ((v : Tally) → Come (next state (push u)) (suc k) → From (suc k) (more (next state (push u)) v))
          → From k (frame state t u more)
      frame-from state u u-is come rest =
          let here = frame-now come.all (subst Rest come.is (rw u-is at rest)) in
          let there = subst (λ (s : State). From k (frame s t (frames k) more)) (sym come.is) here in
          subst (λ (p : Push). From k (frame state t p more)) (sym u-is) there

-- ---- a unit holds the numbers that are read from it
word_there : (n : ℕ) (bytes : List ℕ) (i : ℕ) → i + 1 < n → word_at (take n bytes) i ≡ word_at bytes i
word_there n bytes i h = rw (get_or-take n bytes i 0 (omega arith), get_or-take n bytes (i + 1) 0 h)

shape_there : (bytes : List ℕ) → pictured_in (take 10 bytes) ≡ pictured_in bytes
unfolding shape_in
shape_there bytes =
    rw (
      word_there 10 bytes 0 (omega arith),
      word_there 10 bytes 2 (omega arith),
      word_there 10 bytes 4 (omega arith),
      word_there 10 bytes 6 (omega arith),
      word_there 10 bytes 8 (omega arith),
    )

module _ (p : Option Pictured) (behind : List ℕ) where
  abbrev frames : ℕ → Push
  frames = frame_in p behind

  abbrev count : ℕ
  count = entry_count behind

  abbrev store : List ℕ
  store = replicate 16384 0

  -- ---- pictures: j came, and n are left
  picture_there : (k j : ℕ) (bytes : List ℕ) → k ≡ count + j → bytes ≡ drop (picture_bytes p * j) (pictures_in behind)
      → picture (take (picture_bytes p) bytes) (grid_shape (shown p).shape) (shown p).first ≡ frames k
  unfolding frame_in
  picture_there k j bytes k-is bytes-is =
      let past : k - count ≡ j = omega arith in
      rw (le-ltb k count (omega arith), past, bytes-is)

  picture_behind : (j : ℕ) (bytes : List ℕ) → bytes ≡ drop (picture_bytes p * j) (pictures_in behind)
      → drop (picture_bytes p) bytes ≡ drop (picture_bytes p * suc j) (pictures_in behind)
  picture_behind j bytes e = rw (e, mul-suc) (drop-drop (picture_bytes p) (picture_bytes p * j) (pictures_in behind))

  pictures_from : (n k j : ℕ) (state : State) (t : Tally) (bytes : List ℕ) → k ≡ count + j → bytes ≡ drop (picture_bytes p * j) (pictures_in behind)
      → Come frames store state k → From frames k (pictures n p state t bytes)
  unfolding pictures
  pictures_from zero k j state t bytes k-is bytes-is come = pick frames k (eqb (length bytes) 0) (λ _. record { lines = (tt, tt) }) (fault frames k 3)
  pictures_from (suc n) k j state t bytes k-is bytes-is come =
      let size = picture_bytes p in
      whole_from frames k size (λ u rest. frame state t (picture u (grid_shape (shown p).shape) (shown p).first) (λ after v. pictures n p after v rest)) bytes
      (frame-from frames store k t (λ after v. pictures n p after v (drop size bytes)) state (picture (take size bytes) (grid_shape (shown p).shape) (shown p).first)
      (picture_there k j bytes k-is bytes-is) come
      (λ v further. pictures_from n (suc k) (suc j) _ v (drop size bytes) (omega arith) (picture_behind j bytes bytes-is) further))

  -- ---- entries: k came, and n are left
  entry_there : (k n : ℕ) (bytes : List ℕ) → k + suc n ≡ count → bytes ≡ drop (12 * k) (entries_in behind)
      → push_in (entry_of (take 12 bytes)) ≡ frames k
  unfolding frame_in
  entry_there k n bytes left bytes-is = rw (lt-ltb k count (omega arith), entry_within bytes, bytes-is)

  entry_behind : (k : ℕ) (bytes : List ℕ) → bytes ≡ drop (12 * k) (entries_in behind) → drop 12 bytes ≡ drop (12 * suc k) (entries_in behind)
  entry_behind k bytes e = rw (e, mul-suc) (drop-drop 12 (12 * k) (entries_in behind))

  first_picture : (k : ℕ) (bytes : List ℕ) → k ≡ count → bytes ≡ drop (12 * k) (entries_in behind)
      → drop 2 bytes ≡ drop (picture_bytes p * 0) (pictures_in behind)
  first_picture k bytes k-is e =
      rw (e, k-is, mul-zero) (ap (λ (l : List ℕ). drop 2 l) (drop-drop (12 * count) 2 behind) ∙ drop-drop 2 (2 + 12 * count) behind)

  entries_from : (n k : ℕ) (state : State) (t : Tally) (bytes : List ℕ) → k + n ≡ count → bytes ≡ drop (12 * k) (entries_in behind)
      → Come frames store state k → From frames k (entries n p state t bytes)
  unfolding entries picture_section
  entries_from zero k state t bytes left bytes-is come =
      let n = word_at (take 2 bytes) 0 in
      whole_from frames k 2 (λ u rest. judged (picture_count_tests p (word_at u 0)) (pictures (word_at u 0) p state t rest)) bytes
      (judged_from frames k (picture_count_tests p n)
      (pictures_from n k 0 state t (drop 2 bytes) (omega arith) (first_picture k bytes (omega arith) bytes-is) come))
  entries_from (suc n) k state t bytes left bytes-is come =
      let u = take 12 bytes in
      whole_from frames k 12 (λ u rest. judged (entry_tests u) (frame state t (push_in (entry_of u)) (λ after v. entries n p after v rest))) bytes
      (judged_from frames k (entry_tests u)
      (frame-from frames store k t (λ after v. entries n p after v (drop 12 bytes)) state (push_in (entry_of u)) (entry_there k n bytes left bytes-is) come
      (λ v further. entries_from n (suc k) _ v (drop 12 bytes) (omega arith) (entry_behind k bytes bytes-is) further)))

  entry_section_from : From frames 0 (entry_section p behind)
  unfolding entry_section
  entry_section_from =
      let n = word_at (take 2 behind) 0 in
      whole_from frames 0 2 (λ u rest. entries (word_at u 0) p fresh_state no_frames rest) behind
      (entries_from n 0 fresh_state no_frames (drop 2 behind) (omega (arith, word_there 2 behind 0 (omega arith))) refl (come_fresh frames store))

-- ---- the file
shape_from : (none : Bool) (bytes : List ℕ)
    → From (frame_in (cond none None (Some (pictured_in (drop 2 bytes)))) (cond none (drop 2 bytes) (drop 12 bytes))) 0
    (cond none (entry_section None (drop 2 bytes)) (whole 10 (λ u rest. judged (shape_tests u) (entry_section (Some (pictured_in u)) rest)) (drop 2 bytes)))
shape_from true bytes = entry_section_from None (drop 2 bytes)
shape_from false bytes =
    let u = take 10 (drop 2 bytes) in
    let frames = frame_in (Some (pictured_in (drop 2 bytes))) (drop 12 bytes) in
    whole_from frames 0 10 (λ u rest. judged (shape_tests u) (entry_section (Some (pictured_in u)) rest)) (drop 2 bytes)
    (judged_from frames 0 (shape_tests u)
    (rw (shape_there (drop 2 bytes), drop-drop 10 2 bytes) (entry_section_from (Some (pictured_in (drop 2 bytes))) (drop 12 bytes))))

file_from : (bytes : List ℕ) → From (frame_at bytes) 0 (said_of bytes)
unfolding said_of shape_section
file_from bytes =
    let n = word_at (take 2 bytes) 0 in
    let there = word_there 2 bytes 0 (omega arith) in
    whole_from (frame_at bytes) 0 2 (λ u rest. judged (shape_count_tests (word_at u 0)) (shape_section (word_at u 0) rest)) bytes
    (judged_from (frame_at bytes) 0 (shape_count_tests n) (rw there (shape_from (eqb (word_at bytes 0) 0) bytes)))

pub lines_demanded : LinesDemanded
lines_demanded bytes k n c locked e = rw e at (line_at (frame_at bytes) (said_of bytes) 0 k k (omega arith) (file_from bytes).lines)
