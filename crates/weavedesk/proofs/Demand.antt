-- The weaver's claims over the exported calls.
use Prim.Native.Nat.{ℕ, ◌<◌, ◌≤◌}
use mathlib.Core.Path.{◌≡◌, refl, sym, ap, subst, ◌∙◌}
use mathlib.Core.Bool.{Bool, true, false, ◌&&◌}
use mathlib.Core.List.{List, [], ◌∷◌}
use native.Mathlib.Omega.{arith}
use lib.Dec.{leb}
use Rattle.std.proofs.Common.{Option, None, Some}
use lib.IntN.{ℤ}
use lib.ListN.{length}
use borrow.Author.Tests.{lt-leb, ne_eqb}
use Rattle.laws.specs.Refusal.{lowest, rising, written}
use Rattle.laws.proofs.Refusal.{all_pass, stays}
use Rattle.weaver.specs.History as calls
use Rattle.weaver.specs.Claims as claims
use Rattle.weaver.proofs.Claims as weaver
use Rattle.weavedesk.specs.Push.{Lent, Offer, new_no, clear_no, push_tests, push_no, luma_after, cb_after, cr_after, picture_number, timed_number, time_number}
use Rattle.weavedesk.specs.History.{Call, new, push, clear, after, field_meant, codes_named, calls_of, timed_of, time_of}
use Rattle.weavedesk.specs.Claims.{Gives, PairsWoven, RefusalKnown, RefusedLeaves, PlacesStay, TooShort}
use Rattle.weavedesk.proofs.Carried.{state_in, number_same, alone_fails, Follows, follows}

-- ---- what a field gets
timed_one : (t : Option ℤ) → timed_number (t ∷ []) ≡ timed_of t
timed_one None = refl
timed_one (Some at) = refl

time_one : (t : Option ℤ) → time_number (t ∷ []) ≡ time_of t
time_one None = refl
time_one (Some at) = refl

module _ (l : Lent) (o : Offer) (done : push_no l o ≡ 0) (number : push_no l o ≡ calls.number_in (state_in l) (field_meant o)) where
  gives : (w : calls.Waiting) → claims.Gives w (state_in l) (field_meant o) → Gives w l o
  gives calls.none g = record {
    picture = λ old. (λ i. written (done i) (picture_number (g.times i)) old);
    timed = λ old. (λ i. written (done i) (timed_number (g.times i)) old);
    time = λ old. (λ i. written (done i) (time_number (g.times i)) old);
    luma = λ out. (λ i. luma_after (number i) l o out) ∙ g.luma out;
    cb = λ out. (λ i. cb_after (number i) l o out) ∙ g.cb out;
    cr = λ out. (λ i. cr_after (number i) l o out) ∙ g.cr out;
  }
  gives (calls.waits first) g = record {
    picture = λ old. (λ i. written (done i) (picture_number (g.times i)) old);
    timed = λ old. (λ i. written (done i) (timed_number (g.times i)) old) ∙ timed_one first.time;
    time = λ old. (λ i. written (done i) (time_number (g.times i)) old) ∙ time_one first.time;
    luma = λ out. (λ i. luma_after (number i) l o out) ∙ g.luma out;
    cb = λ out. (λ i. cb_after (number i) l o out) ∙ g.cb out;
    cr = λ out. (λ i. cr_after (number i) l o out) ∙ g.cr out;
  }

module _ (state store : List ℕ) (o : Offer) (earlier : List Call) (room : 56 ≤ length state) where
  abbrev l : Lent
  l = after state store earlier

  -- the mate by the calls that a store of n bytes has room for
  abbrev mate : ℕ → calls.Waiting
  mate n = calls.mate_of (calls.waiting_after (calls.taken n (calls_of earlier))) (field_meant o)

  f : Follows state store earlier
  f = follows state store room earlier

  pairs : push_no l o ≡ 0 → Gives (mate (length store)) l o
  unfolding rising
  pairs done =
      let number = number_same l f.carries.room o (all_pass (push_tests l o) tt done).0 in
      let taken = subst (λ (s : calls.State). calls.number_in s (field_meant o) ≡ 0) f.carries.same (sym number ∙ done) in
      let said = weaver.pairs_woven f.found (field_meant o) (calls_of earlier) taken in
      let here = subst (λ (s : calls.State). claims.Gives (mate (length f.found)) s (field_meant o)) (sym f.carries.same) said in
      subst (λ (n : ℕ). Gives (mate n) l o) f.long (gives l o done number (mate (length f.found)) here)

  -- the number, where the codes name something and where they do not
  known_named :
      codes_named o ≡ true → push_no l o ≡ lowest (calls.refusal_tests (length store) (field_meant o) (calls.taken (length store) (calls_of earlier)))
  known_named e =
      number_same l f.carries.room o e
      ∙ ap (λ (s : calls.State). calls.number_in s (field_meant o)) f.carries.same
      ∙ weaver.refusal_known f.found (field_meant o) (calls_of earlier)
      ∙ ap (λ (n : ℕ). calls.refusal_of n (field_meant o) (calls.taken n (calls_of earlier))) f.long

  number_known :
      (b : Bool) → codes_named o ≡ b
      → push_no l o ≡ lowest ((3, b) ∷ calls.refusal_tests (length store) (field_meant o) (calls.taken (length store) (calls_of earlier)))
  unfolding lowest
  number_known true e = known_named e
  number_known false e = rw e

pub pairs_woven : PairsWoven
pairs_woven state store o earlier room done = pairs state store o earlier room done

pub refusal_known : RefusalKnown
refusal_known state store o earlier room = number_known state store o earlier room (codes_named o) refl

-- ---- refused calls
pub refused_leaves : RefusedLeaves
refused_leaves l new h = rw (ne_eqb (new_no (length l.state)) 0 h)
refused_leaves l clear h = rw (ne_eqb (clear_no (length l.state)) 0 h)
refused_leaves l (push o fit) h = rw (ne_eqb (push_no l o) 0 h)

pub places_stay : PlacesStay
places_stay l o h = record {
  picture = λ old. sym (stays _ old h);
  timed = λ old. sym (stays _ old h);
  time = λ old. sym (stays _ old h);
  luma = λ out. sym (stays _ out h);
  cb = λ out. sym (stays _ out h);
  cr = λ out. sym (stays _ out h);
}

-- ---- a state that is too short
short_push :
    (codes good halved state bytes store : Bool) (tests : List (ℕ × Bool)) → state ≡ false
    → let n = lowest ((3, codes) ∷ (4, good) ∷ (5, halved) ∷ (6, state && bytes && store) ∷ tests) in (0 < n) × (n ≤ 6)
unfolding lowest
short_push true true true state bytes store tests e = rw e (omega arith, omega arith)
short_push true true false state bytes store tests e = (omega arith, omega arith)
short_push true false halved state bytes store tests e = (omega arith, omega arith)
short_push false good halved state bytes store tests e = (omega arith, omega arith)

pub too_short : TooShort
too_short l short =
    let long = lt-leb 56 (length l.state) short in
    record {
      new = alone_fails 7 (leb 56 (length l.state)) long;
      clear = alone_fails 6 (leb 56 (length l.state)) long;
      push = λ o. short_push _ _ _ (leb 56 (length l.state)) _ _ _ long;
    }
