-- The state always holds the weaver that the calls leave, of the fields that the host means.
use Prim.Native.Nat.{ℕ, ◌≤◌, ◌<◌, ◌^◌}
use mathlib.Core.Path.{◌≡◌, refl, ap, ◌∙◌}
use mathlib.Core.Bool.{Bool, true, false, cond}
use mathlib.Core.List.{List, [], ◌∷◌}
use native.Mathlib.Omega.{arith}
use lib.Dec.{leb, eqb}
use lib.ListN.{length}
use borrow.Author.Tests.{le-leb, eqb-true}
use Rattle.laws.specs.Refusal.{lowest, written}
use Rattle.laws.proofs.Rows.{length_over}
use Rattle.packed.specs.Packed.{packed_of}
use Rattle.packed.proofs.Claims.{packed_size}
use Rattle.weaver.specs.declared.Weaver.{Weaver}
use Rattle.weaver.specs.Weaver.{empty_weaver, push_weaver, push_store}
use Rattle.weaver.specs.History as calls
use Rattle.weaver.proofs.Reached as weaver
use Rattle.weavedesk.specs.Woven.{field_named}
use Rattle.weavedesk.specs.Waiting.{whole_size, weaver_numbers, weaver_in, keeping}
use Rattle.weavedesk.specs.Push.{Lent, Offer, new_no, clear_no, emptied, parity_in, time_in, given, weaver_of, push_no, weaver_after, state_after, store_after}
use Rattle.weavedesk.specs.History.{Call, new, push, clear, next, after, field_meant, codes_named, calls_of}
use Rattle.weavedesk.specs.Claims.{Sized}
use Rattle.weavedesk.proofs.Push.{behind_first}
use Rattle.weavedesk.proofs.States.{found_again, empty_sized, push_sized}

-- ---- a call that writes a weaver to the state, or leaves it

kept_room : (w : Weaver) (state : List ℕ) → 56 ≤ length state → 56 ≤ length (keeping w state)
kept_room w state h =
    let size = packed_size (weaver_numbers w) in
    omega (arith, length_over (packed_of (weaver_numbers w)) state (omega (arith, size)))

written_room : (n : ℕ) (w : Weaver) (state : List ℕ) → 56 ≤ length state → 56 ≤ length (written n (keeping w state) state)
written_room n w state h = either (eqb n 0)
  where
    either : (b : Bool) → 56 ≤ length (cond b (keeping w state) state)
    either true = kept_room w state h
    either false = h

found_then :
    (n : ℕ) (w : Weaver) (state : List ℕ) → (n ≡ 0 → Sized w) → weaver_in (written n (keeping w state) state) ≡ written n w (weaver_in state)
found_then n w state sized = either (eqb n 0) (λ e. sized (eqb-true n 0 e))
  where
    either : (b : Bool) → (b ≡ true → Sized w) → weaver_in (cond b (keeping w state) state) ≡ cond b w (weaver_in state)
    either true s = found_again w state (s refl)
    either false s = refl

-- ---- what is lent holds what the weaver's own calls leave

abbrev pub state_in : Lent → calls.State
state_in l = record { weaver = weaver_of l; store = l.store }

pub record Carries (l : Lent) (s : calls.State) : Type 0 where
  pub room : 56 ≤ length l.state
  pub same : state_in l ≡ s

unnamed : (codes : Bool) (tests : List (ℕ × Bool)) → codes ≡ false → lowest ((3, codes) ∷ tests) ≡ 3
unfolding lowest
unnamed codes tests e = rw e

-- a single test
alone_passes : (n : ℕ) (passes : Bool) → passes ≡ true → lowest ((n, passes) ∷ []) ≡ 0
unfolding lowest
alone_passes n passes e = rw e

pub alone_fails : (n : ℕ) (passes : Bool) → passes ≡ false → lowest ((n, passes) ∷ []) ≡ n
unfolding lowest
alone_fails n passes e = rw e

module _ (l : Lent) (room : 56 ≤ length l.state) where
  enough : leb 56 (length l.state) ≡ true
  enough = le-leb 56 (length l.state) room

  pub number_same : (o : Offer) → codes_named o ≡ true → push_no l o ≡ calls.number_in (state_in l) (field_meant o)
  number_same o e = behind_first _ _ _ (codes_named o) _ _ (leb 56 (length l.state)) e enough

  -- a field whose codes name it
  pushed_carries :
      (o : Offer) (fit : whole_size o.time < 2 ^ 63) → codes_named o ≡ true
      → state_in (next l (push o fit)) ≡ calls.next (state_in l) (calls.push (field_meant o))
  pushed_carries o fit e =
      let found = found_then (push_no l o) (weaver_after l o) l.state (λ z. push_sized l o z fit) in
      λ i. record {
        weaver = (found ∙ (λ j. push_weaver (number_same o e j) (weaver_of l) (field_named o.shape) (parity_in o) (time_in o))) i;
        store = push_store (number_same o e i) (weaver_of l) (given o) (parity_in o) l.store;
      }

  -- one whose codes name nothing
  unnamed_carries : (o : Offer) (fit : whole_size o.time < 2 ^ 63) → codes_named o ≡ false → state_in (next l (push o fit)) ≡ state_in l
  unnamed_carries o fit e =
      let three = unnamed (codes_named o) _ e in
      λ i. record { weaver = weaver_in (state_after (three i) l o); store = store_after (three i) l o }

  cleared_carries : state_in (next l clear) ≡ calls.next (state_in l) calls.clear
  cleared_carries =
      let zero = alone_passes 6 (leb 56 (length l.state)) enough in
      λ i. record {
        weaver = ((λ j. weaver_in (emptied (zero j) l.state)) ∙ found_again empty_weaver l.state empty_sized) i;
        store = l.store;
      }

new_carries : (l : Lent) → 56 ≤ length l.state → Carries (next l new) (calls.after l.store [])
new_carries l room = record { room = written_room (new_no (length l.state)) empty_weaver l.state room; same = begun }
  where
    begun : state_in (next l new) ≡ calls.after l.store []
    begun =
        let zero = alone_passes 7 (leb 56 (length l.state)) (le-leb 56 (length l.state) room) in
        λ i. record { weaver = ((λ j. weaver_in (emptied (zero j) l.state)) ∙ found_again empty_weaver l.state empty_sized) i; store = l.store }

-- ---- any calls

push_carries :
    (store : List ℕ) (l : Lent) (made : List calls.Call) → Carries l (calls.after store made) → (o : Offer) (fit : whole_size o.time < 2 ^ 63) (b : Bool)
    → codes_named o ≡ b → Carries (next l (push o fit)) (calls.after store (cond b (calls.push (field_meant o) ∷ made) made))
push_carries store l made h o fit true e = record {
  room = written_room (push_no l o) (weaver_after l o) l.state h.room;
  same = pushed_carries l h.room o fit e ∙ ap (λ (s : calls.State). calls.next s (calls.push (field_meant o))) h.same;
}
push_carries store l made h o fit false e = record {
  room = written_room (push_no l o) (weaver_after l o) l.state h.room;
  same = unnamed_carries l h.room o fit e ∙ h.same;
}

-- what the calls leave is what the fields since the last `new` leave, from the store that it found
pub record Follows (state store : List ℕ) (made : List Call) : Type 0 where
  pub found : List ℕ
  pub long : length found ≡ length store
  pub carries : Carries (after state store made) (calls.after found (calls_of made))

module _ (state store : List ℕ) (room : 56 ≤ length state) where
  pub follows : (made : List Call) → Follows state store made
  follows [] = record { found = store; long = refl; carries = new_carries (record { state = state; store = store }) room }
  follows (new ∷ earlier) =
      let f = follows earlier in
      let l = after state store earlier in
      record {
        found = l.store;
        long =
            ap (λ (s : calls.State). length s.store) f.carries.same
            ∙ (weaver.any_reached f.found (calls_of earlier)).long
            ∙ f.long;
        carries = new_carries l f.carries.room;
      }
  follows (push o fit ∷ earlier) =
      let f = follows earlier in
      record {
        found = f.found;
        long = f.long;
        carries = push_carries f.found (after state store earlier) (calls_of earlier) f.carries o fit (codes_named o) refl;
      }
  follows (clear ∷ earlier) =
      let f = follows earlier in
      let l = after state store earlier in
      record {
        found = f.found;
        long = f.long;
        carries = record {
          room = written_room (clear_no (length l.state)) empty_weaver l.state f.carries.room;
          same = cleared_carries l f.carries.room ∙ ap (λ (s : calls.State). calls.next s calls.clear) f.carries.same;
        };
      }
