-- The proofs of what specs/Claims.antt claims. Section after section, from the end of the file to its start, the machine's turns say what the
-- definition says; Known has the numbers, and Lines what is said of each frame.
use Prim.Native.Nat.{ℕ, zero, suc, ◌+◌, ◌≤◌, ◌<◌}
use native.Mathlib.Omega.{arith}
use mathlib.Core.Path.{◌≡◌, refl}
use mathlib.Core.Bool.{Bool, true, false, cond}
use mathlib.Core.List.{List, ◌∷◌}
use Rattle.std.specs.Prelude.{Option, Some, None}
use lib.Dec.{eqb}
use lib.ListN.{length, take, drop, replicate}
use borrow.Author.Tests.{eqb-true}
use Rattle.laws.specs.Refusal.{lowest}
use Rattle.field.specs.declared.Cadence.{Cadence}
use Rattle.plane.specs.Plane.{grid_shape}
use Rattle.pulldown.specs.Lock.{locked_of}
use Rattle.telecine.specs.Detector.{fresh_detector}
use Rattle.telecine.specs.History.{State, Push, picture, push, number_in, cadence_in, next}
use Rattle.entry.specs.Entry.{word_at, entry_of, push_in}
use Rattle.reel.specs.declared.Pictured.{Pictured}
use Rattle.reel.specs.declared.Tally.{Tally}
use Rattle.reel.specs.declared.Said.{Said}
use Rattle.reel.specs.declared.Said.TheVariants.{Frame}
use Rattle.reel.specs.declared.Stage.{Stage}
use Rattle.reel.specs.declared.Stage.TheVariants.{ShapeNumbers, EntryCount, Entries, Pictures}
use Rattle.reel.specs.declared.Reel.{Reel}
use Rattle.reel.specs.Reel.{shape_count_tests, shape_tests, pictured_in, shown, entry_tests, picture_bytes, picture_count_tests, no_frames, tallied}
use Rattle.reel.specs.Reel.{whole, judged, frame, pictures, picture_section, entries, fresh_state, entry_section, shape_section, said_of}
use Rattle.reel.specs.Machine.{reel_of, start_of, want_of, state_of, tallied_in, pushed_of, shape_count_of, shape_numbers_of, entry_count_of, entry_unit_of}
use Rattle.reel.specs.Machine.{picture_count_of, picture_unit_of, picture_store, next_of, store_after, Ends}
use Rattle.reel.specs.Claims.{ReadsEveryFile, FaultsKnown, LinesDemanded}
use Rattle.reel.proofs.Turns.{some_left, one_less, After, by_turn, by_unit, closed, quiet, choose, stored_unit, unit, ended}
use Rattle.reel.proofs.Known as known
use Rattle.reel.proofs.Lines as lines
use Rattle.reel.proofs.Counted.{counted, Sound, same_tally, still_sound}
use Rattle.reel.proofs.Fine.{Fine, none_fine, given_fine, some_picture}

-- ---- a frame
module _ (r : Reel) (stage : Stage) (store bytes : List ℕ) (u : Push) (more : State → Tally → List Said) where
  abbrev before : State
  before = state_of r store

  abbrev after : State
  after = next before (push u)

  abbrev cadence : Cadence
  cadence = cadence_in before u

  abbrev said : Said
  said = Frame r.detector.lock.course.taken cadence (locked_of after.detector.lock)

  -- whatever the totals, the rest says what it should
  abbrev Rest : Type 0
  Rest = (t : Tally) → Sound after.detector t → Ends (reel_of stage r.pictured after.detector t) after.store bytes (more after t)

  taken : Sound r.detector r.tally → Rest → number_in before u ≡ 0
      → After (length bytes + 2) (record { reel = reel_of stage r.pictured after.detector (tallied_in cadence r.tally); said = said })
      after.store bytes (said ∷ more after (tallied cadence r.tally))
  taken sound rest e =
      let h = counted before u e in
      let on : Ends (reel_of stage r.pictured after.detector (tallied_in cadence r.tally)) after.store bytes (more after (tallied cadence r.tally)) =
      rw (same_tally cadence r.detector r.tally sound h.1)
      (rest (tallied cadence r.tally) (still_sound cadence r.detector after.detector r.tally sound h.0)) in
      record { later = more after (tallied cadence r.tally); goes_on = on; is = refl; quick = on.few }

  frame_says : Sound r.detector r.tally → Rest
      → After (length bytes + 2) (pushed_of r stage store u) after.store bytes (frame before r.tally u more)
  unfolding pushed_of
  frame_says sound rest =
      choose (eqb (number_in before u) 0) (λ e. taken sound rest (eqb-true _ _ e)) (closed r (number_in before u) after.store bytes)

-- ---- pictures
pictures_say : (n : ℕ) (p : Option Pictured) (state : State) (t : Tally) (bytes : List ℕ) → Sound state.detector t → (0 < n → 1 ≤ picture_bytes p)
    → Ends (reel_of (Pictures n) p state.detector t) state.store bytes (pictures n p state t bytes)
unfolding pictures want_of next_of store_after picture_unit_of picture_store
pictures_say zero p state t bytes sound some = by_turn (ended (reel_of (Pictures zero) p state.detector t) state.store bytes)
pictures_say (suc n) p state t bytes sound some =
    let k = picture_bytes p in
    let z : 1 ≤ k = some (omega arith) in
    let r = reel_of (Pictures (suc n)) p state.detector t in
    by_unit k (rw (some_left n)) (rw (some_left n, one_less n)) (rw (some_left n))
    (stored_unit k r state.store _ bytes z
    (λ u rest. frame state t (picture u (grid_shape (shown p).shape) (shown p).first) (λ after v. pictures n p after v rest))
    (frame_says r (Pictures n) state.store (drop k bytes) (picture (take k bytes) (grid_shape (shown p).shape) (shown p).first) (λ after v. pictures n p after v (drop k bytes)) sound
    (λ v s. pictures_say n p _ v (drop k bytes) s (λ _. z))))

picture_section_says : (p : Option Pictured) (state : State) (t : Tally) (bytes : List ℕ) → Sound state.detector t → Fine p
    → Ends (reel_of (Entries zero) p state.detector t) state.store bytes (picture_section p state t bytes)
unfolding picture_section want_of next_of store_after picture_count_of
picture_section_says p state t bytes sound fine =
    let r = reel_of (Entries zero) p state.detector t in
    let n = word_at (take 2 bytes) 0 in
    by_turn
    (unit 2 r state.store bytes (omega arith)
    (λ u rest. judged (picture_count_tests p (word_at u 0)) (pictures (word_at u 0) p state t rest))
    (choose (eqb (lowest (picture_count_tests p n)) 0)
    (λ e. quiet (pictures_say n p state t (drop 2 bytes) sound (some_picture p n fine (eqb-true _ _ e))))
    (closed r (lowest (picture_count_tests p n)) state.store (drop 2 bytes))))

-- ---- entries
entries_say : (n : ℕ) (p : Option Pictured) (state : State) (t : Tally) (bytes : List ℕ) → Sound state.detector t → Fine p
    → Ends (reel_of (Entries n) p state.detector t) state.store bytes (entries n p state t bytes)
unfolding entries want_of next_of store_after entry_unit_of
entries_say zero p state t bytes sound fine = picture_section_says p state t bytes sound fine
entries_say (suc n) p state t bytes sound fine =
    let r = reel_of (Entries (suc n)) p state.detector t in
    let u = take 12 bytes in
    by_unit 12 (rw (some_left n)) (rw (some_left n, one_less n)) refl
    (unit 12 r state.store bytes (omega arith)
    (λ u rest. judged (entry_tests u) (frame state t (push_in (entry_of u)) (λ after v. entries n p after v rest)))
    (choose (eqb (lowest (entry_tests u)) 0)
    (λ e.
    frame_says r (Entries n) state.store (drop 12 bytes) (push_in (entry_of u)) (λ after v. entries n p after v (drop 12 bytes)) sound
    (λ v s. entries_say n p _ v (drop 12 bytes) s fine))
    (closed r (lowest (entry_tests u)) state.store (drop 12 bytes))))

entry_section_says : (p : Option Pictured) (bytes : List ℕ) → Fine p
    → Ends (reel_of EntryCount p fresh_detector no_frames) (replicate 16384 0) bytes (entry_section p bytes)
unfolding entry_section want_of next_of store_after entry_count_of
entry_section_says p bytes fine =
    by_turn
    (unit 2 (reel_of EntryCount p fresh_detector no_frames) (replicate 16384 0) bytes (omega arith)
    (λ u rest. entries (word_at u 0) p fresh_state no_frames rest)
    (quiet (entries_say (word_at (take 2 bytes) 0) p fresh_state no_frames (drop 2 bytes)
    (record { wholes = omega arith; drops = omega arith; spannings = omega arith; nones = omega arith })
    fine)))

-- ---- the shape
abbrev numbers_said : List ℕ → List Said
numbers_said bytes = whole 10 (λ u rest. judged (shape_tests u) (entry_section (Some (pictured_in u)) rest)) bytes

numbers_say : (bytes : List ℕ) → Ends (reel_of ShapeNumbers None fresh_detector no_frames) (replicate 16384 0) bytes (numbers_said bytes)
unfolding want_of next_of store_after shape_numbers_of
numbers_say bytes =
    let r = reel_of ShapeNumbers None fresh_detector no_frames in
    let u = take 10 bytes in
    by_turn
    (unit 10 r (replicate 16384 0) bytes (omega arith)
    (λ u rest. judged (shape_tests u) (entry_section (Some (pictured_in u)) rest))
    (choose (eqb (lowest (shape_tests u)) 0)
    (λ e. quiet (entry_section_says (Some (pictured_in u)) (drop 10 bytes) (given_fine u (eqb-true _ _ e))))
    (closed r (lowest (shape_tests u)) (replicate 16384 0) (drop 10 bytes))))

by_count : (none : Bool) (bytes : List ℕ)
    → Ends (reel_of (cond none EntryCount ShapeNumbers) None fresh_detector no_frames) (replicate 16384 0) bytes
    (cond none (entry_section None bytes) (numbers_said bytes))
by_count true bytes = entry_section_says None bytes none_fine
by_count false bytes = numbers_say bytes

shape_section_says : (n : ℕ) (bytes : List ℕ)
    → Ends (reel_of (cond (eqb n 0) EntryCount ShapeNumbers) None fresh_detector no_frames) (replicate 16384 0) bytes (shape_section n bytes)
unfolding shape_section
shape_section_says n bytes = by_count (eqb n 0) bytes

-- ---- the file
pub reads_every_file : ReadsEveryFile
unfolding said_of want_of next_of store_after shape_count_of
reads_every_file bytes =
    let n = word_at (take 2 bytes) 0 in
    by_turn
    (unit 2 start_of (replicate 16384 0) bytes (omega arith)
    (λ u rest. judged (shape_count_tests (word_at u 0)) (shape_section (word_at u 0) rest))
    (choose (eqb (lowest (shape_count_tests n)) 0)
    (λ e. quiet (shape_section_says n (drop 2 bytes)))
    (closed start_of (lowest (shape_count_tests n)) (replicate 16384 0) (drop 2 bytes))))

pub faults_known : FaultsKnown
faults_known = known.faults_known

pub lines_demanded : LinesDemanded
lines_demanded = lines.lines_demanded
