-- The contracts of exported calls, each read as a plain type over the parameters of its signature in their order. Those of the calls on a weaver come to the
-- number, the places and the lists that specs/History and specs/Push give; those of the two calls on a frame read back to what specs/Readback gives. So a
-- contract that means other parameters is refused here, though its code meet it.
use Prim.Native.Nat.{ℕ}
use mathlib.Core.Path.{◌≡◌, ap, ◌∙◌}
use mathlib.Core.List.{List}
use lib.ListN.{length}
use contract.Lifetimes.{Lfts}
use borrow.Fn.Kinds.{Dens}
use Rattle.laws.specs.Lent.{Comes}
use Rattle.readback.specs.declared.Sizes.{Sizes}
use Rattle.weavedesk.specs.Readback.{Frame, Outputs, ask_no, places_after, copy_no, outputs_after}
use Rattle.weavedesk.specs.Push.{Lent, Offer, emptied, state_after, store_after, luma_after, cb_after, cr_after, picture_after, timed_after, time_after}
use Rattle.weavedesk.specs.History.{new, clear, number_of, next, Pushed}
use Rattle.weavedesk.proofs.desk_readback_sizes.Kinds as sizes-kinds
use Rattle.weavedesk.proofs.desk_readback_sizes.Reads as sizes-reads
use Rattle.weavedesk.proofs.desk_readback_copy.Kinds as copy-kinds
use Rattle.weavedesk.proofs.desk_readback_copy.Reads as copy-reads
use Rattle.weavedesk.proofs.desk_weaver_new.Kinds as new-kinds
use Rattle.weavedesk.proofs.desk_weaver_new.Reads as new-reads
use Rattle.weavedesk.proofs.desk_weaver_clear.Kinds as clear-kinds
use Rattle.weavedesk.proofs.desk_weaver_clear.Reads as clear_reads
use Rattle.weavedesk.proofs.desk_weaver_push.Kinds as push-kinds
use Rattle.weavedesk.proofs.desk_weaver_push.Reads as push-reads

-- ---- a frame read back

abbrev sizes : ℕ → ℕ → ℕ → Sizes
sizes luma cb cr = record { luma = luma; cb = cb; cr = cr }

abbrev outputs : List ℕ → List ℕ → List ℕ → Outputs
outputs luma cb cr = record { luma = luma; cb = cb; cr = cr }

-- the numbers and the three planes come first, and behind them the places or the outputs for luma, cb and cr
pub sizes_comes :
    Comes 6 sizes-kinds.ps sizes-kinds.r sizes-reads.Post
    (λ κs a x s.
    let f : Frame = record { about = a.0; luma = a.1.0.now; second = a.1.1.0.now; third = a.1.1.1.0.now } in
    let places = sizes a.1.1.1.1.0.now a.1.1.1.1.1.0.now a.1.1.1.1.1.1.0.now in
    (x ≡ ask_no f) × (sizes s.1.1.1.1.0.now s.1.1.1.1.1.0.now s.1.1.1.1.1.1.0.now ≡ places_after x f places))
sizes_comes κs a x s met = (met.0, λ i. sizes (met.1.0 i) (met.1.1.0 i) (met.1.1.1 i))

pub copy_comes :
    Comes 6 copy-kinds.ps copy-kinds.r copy-reads.Post
    (λ κs a x s.
    let f : Frame = record { about = a.0; luma = a.1.0.now; second = a.1.1.0.now; third = a.1.1.1.0.now } in
    let outs = outputs a.1.1.1.1.0.now a.1.1.1.1.1.0.now a.1.1.1.1.1.1.0.now in
    (x ≡ copy_no f outs) × (outputs s.1.1.1.1.0.now s.1.1.1.1.1.0.now s.1.1.1.1.1.1.0.now ≡ outputs_after x f outs))
copy_comes κs a x s met = (met.0, λ i. outputs (met.1.0 i) (met.1.1.0 i) (met.1.1.1 i))

-- ---- a weaver

abbrev lent_of : List ℕ → List ℕ → Lent
lent_of state store = record { state = state; store = store }

-- `new` and `clear` are lent no store, and leave any as it is
pub new_comes :
    Comes 1 new-kinds.ps new-kinds.r new-reads.Post
    (λ κs a x s.
    (store : List ℕ) →
    let l = lent_of a.0.now store in
    (x ≡ number_of l new) × (lent_of s.0.now store ≡ next l new))
new_comes κs a x s met store = (met.0, λ i. record { state = (met.1 ∙ ap (λ (n : ℕ). emptied n a.0.now) met.0) i; store = store })

pub clear_comes :
    Comes 1 clear-kinds.ps clear-kinds.r clear_reads.Post
    (λ κs a x s.
    (store : List ℕ) →
    let l = lent_of a.0.now store in
    (x ≡ number_of l clear) × (lent_of s.0.now store ≡ next l clear))
clear_comes κs a x s met store = (met.0, λ i. record { state = (met.1 ∙ ap (λ (n : ℕ). emptied n a.0.now) met.0) i; store = store })

-- the parameters of `desk_weaver_push`, in their order
module _ (κs : Lfts 11) (a : Dens κs push-kinds.ps) where
  -- the first and the ninth
  abbrev lent_to : Lent
  lent_to = record { state = a.0.now; store = a.1.1.1.1.1.1.1.1.0.now }

  -- parity, `timed`, the time, the numbers; luma, cb and cr; and, behind the store, the outputs for luma, cb and cr
  abbrev offered : Offer
  offered = record {
    parity = a.1.0;
    timed = a.1.1.0;
    time = a.1.1.1.0;
    shape = a.1.1.1.1.0;
    luma = a.1.1.1.1.1.0.now;
    cb = a.1.1.1.1.1.1.0.now;
    cr = a.1.1.1.1.1.1.1.0.now;
    luma_room = length a.1.1.1.1.1.1.1.1.1.0.now;
    cb_room = length a.1.1.1.1.1.1.1.1.1.1.0.now;
    cr_room = length a.1.1.1.1.1.1.1.1.1.1.1.0.now;
  }

-- what was given and left, and then the outputs and the three places, last of all the time
pub push_comes :
    Comes 11 push-kinds.ps push-kinds.r push-reads.Post
    (λ κs a x s.
    let l = lent_to κs a in
    let o = offered κs a in
    Pushed l o x s.0.now s.1.1.1.1.1.1.1.1.0.now
    × (s.1.1.1.1.1.1.1.1.1.0.now ≡ luma_after x l o a.1.1.1.1.1.1.1.1.1.0.now)
    × (s.1.1.1.1.1.1.1.1.1.1.0.now ≡ cb_after x l o a.1.1.1.1.1.1.1.1.1.1.0.now)
    × (s.1.1.1.1.1.1.1.1.1.1.1.0.now ≡ cr_after x l o a.1.1.1.1.1.1.1.1.1.1.1.0.now)
    × (s.1.1.1.1.1.1.1.1.1.1.1.1.0.now ≡ picture_after x l o a.1.1.1.1.1.1.1.1.1.1.1.1.0.now)
    × (s.1.1.1.1.1.1.1.1.1.1.1.1.1.0.now ≡ timed_after x l o a.1.1.1.1.1.1.1.1.1.1.1.1.1.0.now)
    × (s.1.1.1.1.1.1.1.1.1.1.1.1.1.1.0.now ≡ time_after x l o a.1.1.1.1.1.1.1.1.1.1.1.1.1.1.0.now))
push_comes κs a x s met =
    let l = lent_to κs a in
    let o = offered κs a in (
      record {
        number = met.0;
        state_left = met.1.0 ∙ ap (λ (n : ℕ). state_after n l o) met.0;
        store_left = met.1.1.0 ∙ ap (λ (n : ℕ). store_after n l o) met.0;
      },
      met.1.1.1.0,
      met.1.1.1.1.0,
      met.1.1.1.1.1.0,
      met.1.1.1.1.1.1.0,
      met.1.1.1.1.1.1.1.0,
      met.1.1.1.1.1.1.1.1,
    )
