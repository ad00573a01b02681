-- What the exported functions' contracts come to. proofs/Claims.antt proves each claim under its name in small letters.
use Rattle.std.specs.Prelude.{ℕ, ◌≤◌, ◌<◌, ◌^◌, ◌≡◌, ◌↔◌, List, [], ◌∷◌, ℤ, pos, length}
use Rattle.laws.specs.Refusal.{lowest, Says}
use Rattle.laws.specs.Rows.{listed, over}
use Rattle.numbers.specs.declared.GridNumbers.{GridNumbers}
use Rattle.numbers.specs.Numbers.{grid_named}
use Rattle.weave.specs.Weave.{given_of, weave_tests, line_tests}
use Rattle.weaver.specs.declared.Weaver.{Weaver}
use Rattle.weaver.specs.Weaver.{kept_of, woven_by}
use Rattle.weaver.specs.History.{Sent, Waiting, none, waits, mate_of, waiting_after, refusal_tests, taken}
use Rattle.readback.specs.declared.Sizes.{Sizes}
use Rattle.readback.specs.Readback.{sizes_tests, readback_tests}
use Rattle.readback.specs.Claims.{Shorter, packed_sizes}
use Rattle.weavedesk.specs.declared.FieldNumbers.{FieldNumbers}
use Rattle.weavedesk.specs.declared.ReadbackNumbers.{ReadbackNumbers}
use Rattle.weavedesk.specs.Woven.{field_named, readback_named, line_out_tests}
use Rattle.weavedesk.specs.Readback.{Frame, Outputs, lengths, ask_no, places_after, copy_no, outputs_after, planes_meant, at_front}
use Rattle.weavedesk.specs.Waiting.{whole_size, time_size, weaver_in, keeping}
use Rattle.weavedesk.specs.Push.{Lent, Offer, new_tests, new_no, clear_tests, clear_no, push_tests, push_no}
use Rattle.weavedesk.specs.Push.{weaver_after, luma_after, cb_after, cr_after, picture_after, timed_after, time_after}
use Rattle.weavedesk.specs.History.{Call, number_of, next, after, grid_meant, field_meant, codes_named, calls_of, timed_of, time_of}

-- ---- the numbers: 0 exactly when no number applies, and otherwise the lowest that does, of each call's own tests

abbrev pub WeaveSays : Type 0
WeaveSays =
    (top : FieldNumbers) (top-luma top-cb top-cr : List ℕ) (bottom : FieldNumbers) (bottom-luma bottom-cb bottom-cr : List ℕ)
    (luma_room cb_room cr_room : ℕ)
    → let above = given_of (field_named top) top-luma top-cb top-cr in
    let below = given_of (field_named bottom) bottom-luma bottom-cb bottom-cr in
    Says (weave_tests above below luma_room cb_room cr_room)

abbrev pub LineSays : Type 0
LineSays =
    (t : GridNumbers) (top-bytes : ℕ) (b : GridNumbers) (bottom-bytes y : ℕ) → Says (line_tests (grid_named t) top-bytes (grid_named b) bottom-bytes y)

abbrev pub LineOutSays : Type 0
LineOutSays = (t : GridNumbers) (top-bytes : ℕ) (b : GridNumbers) (bottom-bytes y room : ℕ) → Says (line_out_tests t top-bytes b bottom-bytes y room)

abbrev pub SizesSays : Type 0
SizesSays = (about : ReadbackNumbers) (luma second third : ℕ) → Says (sizes_tests (readback_named about) luma second third)

abbrev pub ReadbackSays : Type 0
ReadbackSays =
    (about : ReadbackNumbers) (luma second third luma_room cb_room cr_room : ℕ)
    → Says (readback_tests (readback_named about) luma second third luma_room cb_room cr_room)

abbrev pub NewSays : Type 0
NewSays = (state : ℕ) → Says (new_tests state)

abbrev pub ClearSays : Type 0
ClearSays = (state : ℕ) → Says (clear_tests state)

abbrev pub PushSays : Type 0
PushSays = (l : Lent) (o : Offer) → Says (push_tests l o)

-- ---- a frame read back: the host asks for its sizes, and copies the same frame

pub record InTurn (f : Frame) (places : Sizes) (outs : Outputs) : Type 0 where
  -- The copy gets the number of the call before it, except where that is 0 and an output is shorter than the places say: then, and only then, 7.
  pub seven : (copy_no f outs ≡ 7) ↔ ((ask_no f ≡ 0) × Shorter (places_after (ask_no f) f places) (lengths outs))
  pub alike : (copy_no f outs ≡ 7 → ⊥) → copy_no f outs ≡ ask_no f
  pub up_to_six : ask_no f ≤ 6
  -- What the places say is height times width times bytes a sample, by the numbers that the host gave,
  pub packed : ask_no f ≡ 0 → places_after (ask_no f) f places ≡ packed_sizes f.about.width f.about.height f.about.depth
  -- and it is how long the planes are that the host means.
  pub as_long : ask_no f ≡ 0 → places_after (ask_no f) f places ≡ lengths (planes_meant f)
  -- Outputs that are no shorter get these planes at their fronts, and their rest stays;
  pub front :
      ask_no f ≡ 0 → (Shorter (places_after (ask_no f) f places) (lengths outs) → ⊥)
      → (copy_no f outs ≡ 0) × (outputs_after (copy_no f outs) f outs ≡ at_front (planes_meant f) outs)
  -- outputs of just these lengths get the planes, and keep no byte of what they held.
  pub filled :
      ask_no f ≡ 0 → lengths outs ≡ places_after (ask_no f) f places
      → (copy_no f outs ≡ 0) × (outputs_after (copy_no f outs) f outs ≡ planes_meant f)
  -- A refused call changes nothing that it was lent.
  pub places_stay : (ask_no f ≡ 0 → ⊥) → places_after (ask_no f) f places ≡ places
  pub outputs_stay : (copy_no f outs ≡ 0 → ⊥) → outputs_after (copy_no f outs) f outs ≡ outs

-- This holds of every frame, whatever the places and the outputs held.
abbrev pub AskThenCopy : Type 0
AskThenCopy = (f : Frame) (places : Sizes) (outs : Outputs) → InTurn f places outs

-- One frame written out: 3 by 2 samples of 10 bits, which stand in the high bits of their words. Luma is 1 2 3, two bytes of padding, 4 5 1023, the last of
-- these by the list that is given; cb 6 8 and cr 7 9 share a plane.
abbrev pub one_frame : ℕ → List ℕ → Frame
one_frame planes last = record {
  about = record { planes = planes; width = 3; height = 2; depth = 10; luma_pitch = 8; second_pitch = 8; third_pitch = 0 };
  luma = 64 ∷ 0 ∷ 128 ∷ 0 ∷ 192 ∷ 0 ∷ 99 ∷ 99 ∷ 0 ∷ 1 ∷ 64 ∷ 1 ∷ last;
  second = 128 ∷ 1 ∷ 192 ∷ 1 ∷ 0 ∷ 2 ∷ 64 ∷ 2 ∷ [];
  third = [];
}

abbrev pub blank : ℕ → ℕ → ℕ → Outputs
blank luma cb cr = record { luma = listed luma (λ _. 99); cb = listed cb (λ _. 99); cr = listed cr (λ _. 99) }

-- its sizes, its planes in outputs of which cr's is a byte longer, and each of the refusals
abbrev pub OneFrame : Type 0
OneFrame =
    let f = one_frame 2 (192 ∷ 255 ∷ []) in
    (ask_no f ≡ 0)
    × ((places : Sizes) → places_after 0 f places ≡ record { luma = 12; cb = 4; cr = 4 })
    × (copy_no f (blank 12 4 5) ≡ 0)
    × (
    outputs_after 0 f (blank 12 4 5)
    ≡ record { luma = 1 ∷ 0 ∷ 2 ∷ 0 ∷ 3 ∷ 0 ∷ 4 ∷ 0 ∷ 5 ∷ 0 ∷ 255 ∷ 3 ∷ []; cb = 6 ∷ 0 ∷ 8 ∷ 0 ∷ []; cr = 7 ∷ 0 ∷ 9 ∷ 0 ∷ 99 ∷ [] }
    )
    × (ask_no (one_frame 0 []) ≡ 1)
    × (ask_no (one_frame 4 []) ≡ 1)
    × (ask_no (one_frame 1 []) ≡ 2)
    × (ask_no (one_frame 3 []) ≡ 4)
    × (ask_no (one_frame 2 (192 ∷ [])) ≡ 6)
    × (copy_no f (blank 12 4 3) ≡ 7)

-- ---- states

-- a weaver whose numbers have the sizes of their places, as every weaver of the code has
pub record Sized (w : Weaver) : Type 0 where
  pub width : (kept_of w).width < 65536
  pub height : (kept_of w).height < 65536
  pub depth : (kept_of w).depth < 256
  pub time : time_size (kept_of w).time < 2 ^ 63

-- What one call leaves in the state, the next one finds there.
abbrev pub FoundAgain : Type 0
FoundAgain = (w : Weaver) (bytes : List ℕ) → Sized w → weaver_in (keeping w bytes) ≡ w

-- What bytes hold, and what a push that gets 0 leaves, is such a weaver, whichever bytes they are; a time of 64 bits has a size below 2 ^ 63.
abbrev pub AlwaysSized : Type 0
AlwaysSized = (bytes : List ℕ) → Sized (weaver_in bytes)

abbrev pub PushSized : Type 0
PushSized = (l : Lent) (o : Offer) → push_no l o ≡ 0 → whole_size o.time < 2 ^ 63 → Sized (weaver_after l o)

-- ---- over calls

-- What a push gives that gets 0, at each place that is lent. A field with no mate gives no picture and leaves the outputs as they were.
pub record NoPicture (l : Lent) (o : Offer) : Type 0 where
  pub picture : (old : ℕ) → picture_after (push_no l o) l o old ≡ 0
  pub timed : (old : ℕ) → timed_after (push_no l o) l o old ≡ 0
  pub time : (old : ℤ) → time_after (push_no l o) l o old ≡ pos 0
  pub luma : (out : List ℕ) → luma_after (push_no l o) l o out ≡ out
  pub cb : (out : List ℕ) → cb_after (push_no l o) l o out ≡ out
  pub cr : (out : List ℕ) → cr_after (push_no l o) l o out ≡ out

-- A field with a mate gives the two woven as the host gave them, plane by plane, and the mate's time.
pub record Picture (l : Lent) (first : Sent) (o : Offer) : Type 0 where
  pub picture : (old : ℕ) → picture_after (push_no l o) l o old ≡ 1
  pub timed : (old : ℕ) → timed_after (push_no l o) l o old ≡ timed_of first.time
  pub time : (old : ℤ) → time_after (push_no l o) l o old ≡ time_of first.time
  pub luma :
      (out : List ℕ)
      → luma_after (push_no l o) l o out
      ≡ over (woven_by first.parity first.field.luma first.field.shape.luma o.luma (grid_meant o.shape.luma)) out
  pub cb :
      (out : List ℕ)
      → cb_after (push_no l o) l o out ≡ over (woven_by first.parity first.field.cb first.field.shape.cb o.cb (grid_meant o.shape.cb)) out
  pub cr :
      (out : List ℕ)
      → cr_after (push_no l o) l o out ≡ over (woven_by first.parity first.field.cr first.field.shape.cr o.cr (grid_meant o.shape.cr)) out

abbrev pub Gives : Waiting → Lent → Offer → Type 0
Gives none l o = NoPicture l o
Gives (waits first) l o = Picture l first o

-- Take any calls of `new`, `push` and `clear` after a `new`, refused ones among them, state and store lent back as they were left. The pictures and
-- times are exactly those of the pairs that the rules name, of the fields that the host gave.
abbrev pub PairsWoven : Type 0
PairsWoven =
    (state store : List ℕ) (o : Offer) (earlier : List Call) → 56 ≤ length state → push_no (after state store earlier) o ≡ 0
    → Gives (mate_of (waiting_after (taken (length store) (calls_of earlier))) (field_meant o)) (after state store earlier) o

-- What a field gets is known from the host's numbers, the fields before it that were taken, and the length of the store.
abbrev pub RefusalKnown : Type 0
RefusalKnown =
    (state store : List ℕ) (o : Offer) (earlier : List Call) → 56 ≤ length state
    → push_no (after state store earlier) o
    ≡ lowest ((3, codes_named o) ∷ refusal_tests (length store) (field_meant o) (taken (length store) (calls_of earlier)))

-- A refused call leaves the state and the store as they were, whatever they hold and however long they are,
abbrev pub RefusedLeaves : Type 0
RefusedLeaves = (l : Lent) (call : Call) → (number_of l call ≡ 0 → ⊥) → next l call ≡ l

-- and a refused push the outputs and the lent places too.
pub record Stays (l : Lent) (o : Offer) : Type 0 where
  pub picture : (old : ℕ) → picture_after (push_no l o) l o old ≡ old
  pub timed : (old : ℕ) → timed_after (push_no l o) l o old ≡ old
  pub time : (old : ℤ) → time_after (push_no l o) l o old ≡ old
  pub luma : (out : List ℕ) → luma_after (push_no l o) l o out ≡ out
  pub cb : (out : List ℕ) → cb_after (push_no l o) l o out ≡ out
  pub cr : (out : List ℕ) → cr_after (push_no l o) l o out ≡ out

abbrev pub PlacesStay : Type 0
PlacesStay = (l : Lent) (o : Offer) → (push_no l o ≡ 0 → ⊥) → Stays l o

-- With a state of fewer than 56 bytes every call is refused: `new` with 7, `clear` with 6, a push with 6 or a lower number.
pub record AllRefused (l : Lent) : Type 0 where
  pub new : new_no (length l.state) ≡ 7
  pub clear : clear_no (length l.state) ≡ 6
  pub push : (o : Offer) → (0 < push_no l o) × (push_no l o ≤ 6)

abbrev pub TooShort : Type 0
TooShort = (l : Lent) → length l.state < 56 → AllRefused l
