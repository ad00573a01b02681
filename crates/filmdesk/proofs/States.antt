-- The claims of specs/Claims.antt about states: what was written is found again, and what a call leaves fits its places.
use Prim.Native.Nat.{ℕ, ◌+◌, ◌*◌, ◌%◌, ◌<◌, ◌^◌}
use mathlib.Core.Path.{◌≡◌, refl, sym, ap, subst, ◌∙◌}
use mathlib.Core.Bool.{Bool, true, false, not}
use mathlib.Core.List.{List, [], ◌∷◌, ◌++◌, append_assoc}
use native.Mathlib.Nat.{mod-lt, mod-eq_of_lt, lt_trans, lt_of_le_of_lt}
use native.Mathlib.Omega.{arith}
use Rattle.std.specs.Prelude.{Option, Some, None}
use lib.Dec.{eqb, lit<}
use lib.ListN.{length, get_or, drop, get_or-append, length-append}
use lib.Seq.{get_or-append-add, get_or-append_seam, drop-append_seam}
use Rattle.laws.specs.Refusal.{rising}
use Rattle.laws.proofs.Refusal.{all_pass}
use Rattle.laws.proofs.Digits.{digits_below}
use Rattle.laws.proofs.Lists.{listed_at, listed_again, same_listed}
use Rattle.field.specs.declared.Parity.{Parity}
use Rattle.field.specs.declared.Parity.TheVariants as parity
use Rattle.field.specs.Field.{first_row_of, parity_named}
use Rattle.plane.proofs.Bounds.{good_within}
use Rattle.packed.specs.Packed.{packed_of, number_at}
use Rattle.packed.proofs.Claims.{packed_size, reads_back}
use Rattle.telecine.specs.declared.Detector.{Detector}
use Rattle.telecine.specs.Detector.{seen_measured, measured_no, seen_picture, kept_as, push_tests, push_no}
use Rattle.telecine.specs.History.{picture, measured}
use Rattle.telecine.proofs.Reached.{few_taken}
use Rattle.filmdesk.specs.Kept.{number_if, chosen_number, chosen_named, detector_numbers, detector_bytes, detector_in, keeping}
use Rattle.filmdesk.specs.Claims.{Sized, FoundAgain, AlwaysSized, FreshSized, ResetSized, MeasuredSized, PushSized}
use Rattle.filmdesk.proofs.Kept.{found_ring}
use Rattle.filmdesk.proofs.Sized.{advanced_sized, fresh_with, written_sized}

-- ---- what a number stands for is read back
held_back : (b : Bool) → not (eqb (number_if b) 0) ≡ b
held_back true = refl
held_back false = refl

first_back : (p : Parity) → parity_named (first_row_of p) ≡ p
first_back parity.Top = refl
first_back parity.Bottom = refl

last_back : (c : Option Parity) → chosen_named (chosen_number c) ≡ c
last_back None = refl
last_back (Some parity.Top) = refl
last_back (Some parity.Bottom) = refl

held_small : (b : Bool) → number_if b < 2 ^ 64
held_small true = lit< tt
held_small false = lit< tt

first_small : (p : Parity) → first_row_of p < 2 ^ 64
first_small parity.Top = lit< tt
first_small parity.Bottom = lit< tt

last_small : (c : Option Parity) → chosen_number c < 2 ^ 64
last_small None = lit< tt
last_small (Some parity.Top) = lit< tt
last_small (Some parity.Bottom) = lit< tt

-- ---- a detector that was written is found again

module _ (d : Detector) (bytes : List ℕ) (s : Sized d) where
  -- what stands behind the numbers in the state
  abbrev behind : List ℕ
  behind = d.lock.ring ++ (d.lock.course.phase ∷ [])

  abbrev rest : List ℕ
  rest = drop (length (detector_bytes d)) bytes

  state_is : keeping d bytes ≡ packed_of (detector_numbers d) ++ (behind ++ rest)
  state_is = append_assoc (packed_of (detector_numbers d)) behind rest

  number_back : (k : ℕ) → k < 10 → get_or (detector_numbers d) k 0 < 2 ^ 64 → number_at (keeping d bytes) k ≡ get_or (detector_numbers d) k 0
  number_back k l small =
      ap (λ (b : List ℕ). number_at b k) (state_is ∙ ap (λ (b : List ℕ). packed_of (detector_numbers d) ++ b) (sym (drop-append_seam (packed_of (detector_numbers d)) (behind ++ rest))))
      ∙ reads_back (detector_numbers d) (packed_of (detector_numbers d) ++ (behind ++ rest)) k l small

  behind_at : (i : ℕ) → i < 16 → get_or (keeping d bytes) (80 + i) 0 ≡ get_or behind i 0
  behind_at i l =
      let long : length (packed_of (detector_numbers d)) ≡ 80 = packed_size (detector_numbers d) in
      ap (λ (b : List ℕ). get_or b (80 + i) 0) state_is
      ∙ ap (λ (n : ℕ). get_or (packed_of (detector_numbers d) ++ (behind ++ rest)) (n + i) 0) (sym long)
      ∙ get_or-append-add (packed_of (detector_numbers d)) (behind ++ rest) i 0
      ∙ get_or-append behind rest 0 i (omega (arith, l, length-append d.lock.ring (d.lock.course.phase ∷ []), s.ring))

  symbol_at : (i : ℕ) → i < 15 → get_or (keeping d bytes) (80 + i) 0 ≡ get_or d.lock.ring i 0
  symbol_at i l = behind_at i (omega arith) ∙ get_or-append d.lock.ring (d.lock.course.phase ∷ []) 0 i (rw s.ring l)

  phase_at : get_or (keeping d bytes) 95 0 ≡ d.lock.course.phase
  phase_at =
      behind_at 15 (lit< tt)
      ∙ ap (λ (n : ℕ). get_or behind n 0) (sym s.ring)
      ∙ get_or-append_seam d.lock.ring d.lock.course.phase [] 0

  found : detector_in (keeping d bytes) ≡ d
  unfolding detector_in
  found = λ i. record {
    lock = record {
      ring = (same_listed 15 _ _ symbol_at ∙ listed_again d.lock.ring 15 0 (sym s.ring)) i;
      course = record {
        next = number_back 0 (lit< tt) s.next i;
        held = number_back 1 (lit< tt) s.held i;
        taken = number_back 2 (lit< tt) s.taken i;
        phase = phase_at i;
        since = number_back 3 (lit< tt) s.since i;
        stills = number_back 4 (lit< tt) s.stills i;
      };
    };
    kept = record {
      held = (ap (λ (n : ℕ). not (eqb n 0)) (number_back 5 (lit< tt) (held_small d.kept.held)) ∙ held_back d.kept.held) i;
      width = (ap (λ (n : ℕ). n % 65536) (number_back 6 (lit< tt) (lt_trans s.width (lit< tt))) ∙ mod-eq_of_lt s.width) i;
      height = (ap (λ (n : ℕ). n % 65536) (number_back 7 (lit< tt) (lt_trans s.height (lit< tt))) ∙ mod-eq_of_lt s.height) i;
      first = (ap parity_named (number_back 8 (lit< tt) (first_small d.kept.first)) ∙ first_back d.kept.first) i;
    };
    last = (ap chosen_named (number_back 9 (lit< tt) (last_small d.last)) ∙ last_back d.last) i;
  }

pub found_again : FoundAgain
found_again = found

-- ---- what bytes hold has the sizes of its places
number_small : (bytes : List ℕ) → ((i : ℕ) → get_or bytes i 0 < 256) → (k : ℕ) → number_at bytes k < 2 ^ 64
unfolding number_at
number_small bytes small k = digits_below 256 (λ i. get_or bytes (8 * k + i) 0) (λ i. small (8 * k + i)) 8

pub always_sized : AlwaysSized
unfolding detector_in
always_sized bytes small = record {
  ring = found_ring bytes;
  symbols = λ i l. subst (λ (n : ℕ). n < 256) (sym (listed_at 15 _ i 0 l)) (small (80 + i));
  next = number_small bytes small 0;
  held = number_small bytes small 1;
  taken = number_small bytes small 2;
  phase = small 95;
  since = number_small bytes small 3;
  stills = number_small bytes small 4;
  width = mod-lt (number_at bytes 6) (lit< tt);
  height = mod-lt (number_at bytes 7) (lit< tt);
}

-- ---- and so has what a call makes of such a detector
pub fresh_sized : FreshSized
fresh_sized = fresh_with None

pub reset_sized : ResetSized
reset_sized d = fresh_with d.last

pub measured_sized : MeasuredSized
measured_sized d first m z =
    written_sized (measured_no d) _ d z
    (λ none.
    let few = few_taken (record { detector = d; store = [] }) (measured first m) none in
    advanced_sized d (seen_measured d.last first m) d.kept (Some first) z few z.width z.height)

pub push_sized : PushSized
unfolding rising
push_sized d store plane s first z = written_sized (push_no d s (length plane) (length store)) _ d z (λ none.
    let within = good_within s (all_pass (push_tests d s (length plane) (length store)) tt none).0 in
    let few = few_taken (record { detector = d; store = store }) (picture plane s first) none in
    advanced_sized d (seen_picture d.kept store plane s first) (kept_as s first) (Some first) z few
    (lt_of_le_of_lt within.width_most (lit< tt)) (lt_of_le_of_lt within.height_most (lit< tt)))
