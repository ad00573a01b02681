-- A weaver in the state's bytes is found again, and its numbers have the sizes of their places.
use Prim.Native.Nat.{ℕ, ◌%◌, ◌≤◌, ◌<◌, ◌^◌}
use mathlib.Core.Path.{◌≡◌, refl, ap, ◌∙◌}
use mathlib.Core.Bool.{Bool, true, false, cond}
use mathlib.Core.List.{List}
use native.Mathlib.Nat.{mod-lt, mod-eq_of_lt, lt_trans}
use native.Mathlib.Omega.{arith}
use lib.Dec.{T, leb, eqb, ltb, ltb→lt, lit<}
use Rattle.std.proofs.Common.{Option, None, Some}
use lib.ListN.{get_or}
use lib.IntN.{ℤ, pos, negsuc}
use Rattle.laws.proofs.Bools.{halves}
use Rattle.laws.specs.Refusal.{rising}
use Rattle.laws.proofs.Refusal.{all_pass}
use Rattle.field.specs.declared.Parity.{Parity}
use Rattle.field.specs.declared.Parity.TheVariants as parity
use Rattle.field.specs.Field.{first_row_of, parity_named}
use Rattle.plane.specs.Plane.{grid_shape, good_shape}
use Rattle.plane.proofs.Bounds.{good_within}
use Rattle.packed.specs.Packed.{number_at}
use Rattle.packed.proofs.Claims.{reads_back}
use Rattle.weave.specs.Weave.{good_lines}
use Rattle.weave.proofs.Judged.{each_of_three}
use Rattle.weaver.specs.declared.Waiting.{Waiting}
use Rattle.weaver.specs.declared.Weaver.{Weaver}
use Rattle.weaver.specs.Weaver.{empty_weaver, waiting_for, fits}
use Rattle.weavedesk.specs.Woven.{flag_named, field_named}
use Rattle.weavedesk.specs.Waiting.{whole_size, time_kind, time_size, time_of, weaver_numbers, waiting_in, weaver_in, keeping}
use Rattle.weavedesk.specs.Push.{weaver_of, parity_in, time_in, push_tests}
use Rattle.weavedesk.specs.Claims.{Sized, FoundAgain, AlwaysSized, PushSized}

-- ---- what a number stands for is read back
parity_back : (p : Parity) → parity_named (first_row_of p) ≡ p
parity_back parity.Top = refl
parity_back parity.Bottom = refl

time_back : (t : Option ℤ) → time_size t < 2 ^ 63 → time_of (time_kind t) (time_size t) ≡ t
time_back None h = refl
time_back (Some (pos n)) h = ap (λ (k : ℕ). Some (pos k)) (mod-eq_of_lt h)
time_back (Some (negsuc n)) h = ap (λ (k : ℕ). Some (negsuc k)) (mod-eq_of_lt h)

parity_small : (p : Parity) → first_row_of p < 2 ^ 64
parity_small parity.Top = lit< tt
parity_small parity.Bottom = lit< tt

kind_small : (t : Option ℤ) → time_kind t < 2 ^ 64
kind_small None = lit< tt
kind_small (Some (pos n)) = lit< tt
kind_small (Some (negsuc n)) = lit< tt

-- ---- a weaver that was written is found again
module _ (w : Weaver) (bytes : List ℕ) where
  number_at_lem : (k : ℕ) → k < 7 → get_or (weaver_numbers w) k 0 < 2 ^ 64 → number_at (keeping w bytes) k ≡ get_or (weaver_numbers w) k 0
  number_at_lem k l small = reads_back (weaver_numbers w) bytes k l small

module _ (field : Waiting) (bytes : List ℕ) (s : Sized (record { waiting = Some field })) where
  abbrev with_field : Weaver
  with_field = record { waiting = Some field }

  field_found : waiting_in (keeping with_field bytes) ≡ field
  unfolding waiting_in
  field_found =
      let kind = number_at_lem with_field bytes 5 (lit< tt) (kind_small field.time) in
      let size = number_at_lem with_field bytes 6 (lit< tt) (lt_trans s.time (lit< tt)) in
      λ i. record {
        width = (ap (λ (n : ℕ). n % 65536) (number_at_lem with_field bytes 1 (lit< tt) (lt_trans s.width (lit< tt))) ∙ mod-eq_of_lt s.width) i;
        height = (ap (λ (n : ℕ). n % 65536) (number_at_lem with_field bytes 2 (lit< tt) (lt_trans s.height (lit< tt))) ∙ mod-eq_of_lt s.height) i;
        depth = (ap (λ (n : ℕ). n % 256) (number_at_lem with_field bytes 3 (lit< tt) (lt_trans s.depth (lit< tt))) ∙ mod-eq_of_lt s.depth) i;
        parity = (ap parity_named (number_at_lem with_field bytes 4 (lit< tt) (parity_small field.parity)) ∙ parity_back field.parity) i;
        time = ((λ j. time_of (kind j) (size j)) ∙ time_back field.time s.time) i;
      }

found : (waiting : Option Waiting) (bytes : List ℕ) → Sized (record { waiting = waiting })
    → weaver_in (keeping (record { waiting = waiting }) bytes) ≡ record { waiting = waiting }
unfolding weaver_in
found None bytes s =
    let empty : Weaver = record { waiting = None } in
    let first : number_at (keeping empty bytes) 0 ≡ 0 = number_at_lem empty bytes 0 (lit< tt) (lit< tt) in
    λ i. record { waiting = cond (flag_named (first i)) (Some (waiting_in (keeping empty bytes))) None }
found (Some field) bytes s =
    let first : number_at (keeping (with_field field bytes s) bytes) 0 ≡ 1 = number_at_lem (with_field field bytes s) bytes 0 (lit< tt) (lit< tt) in
    λ i. record { waiting = cond (flag_named (first i)) (Some (field_found field bytes s i)) None }

pub found_again : FoundAgain
found_again w bytes s = found w.waiting bytes s

-- ---- what bytes hold, and what a push leaves, has the sizes of its places
either_size : (b : Bool) (x y : Option ℤ) → time_size x < 2 ^ 63 → time_size y < 2 ^ 63 → time_size (cond b x y) < 2 ^ 63
either_size true x y h k = h
either_size false x y h k = k

either_whole : (b : Bool) (x y : ℤ) → whole_size x < 2 ^ 63 → whole_size y < 2 ^ 63 → whole_size (cond b x y) < 2 ^ 63
either_whole true x y h k = h
either_whole false x y h k = k

either_sized : (b : Bool) (x y : Weaver) → Sized x → Sized y → Sized (cond b x y)
either_sized true x y h k = h
either_sized false x y h k = k

time_sized : (kind size : ℕ) → time_size (time_of kind size) < 2 ^ 63
time_sized kind size =
    either_size (eqb kind 0) None (Some (cond (eqb kind 1) (pos (size % 2 ^ 63)) (negsuc (size % 2 ^ 63)))) (lit< tt)
    (either_whole (eqb kind 1) (pos (size % 2 ^ 63)) (negsuc (size % 2 ^ 63)) (mod-lt size (lit< tt)) (mod-lt size (lit< tt)))

pub empty_sized : Sized empty_weaver
empty_sized = record { width = lit< tt; height = lit< tt; depth = lit< tt; time = lit< tt }

field_sized : (bytes : List ℕ) → Sized (record { waiting = Some (waiting_in bytes) })
unfolding waiting_in
field_sized bytes = record {
  width = mod-lt (number_at bytes 1) (lit< tt);
  height = mod-lt (number_at bytes 2) (lit< tt);
  depth = mod-lt (number_at bytes 3) (lit< tt);
  time = time_sized (number_at bytes 5) (number_at bytes 6);
}

pub always_sized : AlwaysSized
unfolding weaver_in
always_sized bytes = either (flag_named (number_at bytes 0))
  where
    either : (b : Bool) → Sized (record { waiting = cond b (Some (waiting_in bytes)) None })
    either true = field_sized bytes
    either false = empty_sized

below : {n most : ℕ} (limit : ℕ) → n ≤ most → T (ltb most limit) → n < limit
below {n} {most} limit h t = omega (arith, ltb→lt most limit t)

pub push_sized : PushSized
unfolding rising
push_sized l o done h =
    let f = field_named o.shape in
    let shapes = (all_pass (push_tests l o) tt done).1.0 in
    let luma = (each_of_three (good_lines f.luma) (good_lines f.cb) (good_lines f.cr) shapes).0 in
    let w = good_within (grid_shape f.luma) (halves (good_shape (grid_shape f.luma)) (leb f.luma.height 2176) luma).0 in
    either_sized (fits (weaver_of l) f (parity_in o)) empty_weaver (waiting_for f (parity_in o) (time_in o)) empty_sized
    record {
      width = below 65536 w.width_most tt;
      height = below 65536 w.height_most tt;
      depth = below 256 w.depth_most tt;
      time = either_size (eqb o.timed 0) None (Some o.time) (lit< tt) h;
    }
