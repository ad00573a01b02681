-- The claims of specs/Claims.antt.
use mathlib.Core.Path.{◌≡◌}
use lib.ListN.{length}
use Rattle.laws.specs.Refusal.{rising, written}
use Rattle.laws.proofs.Claims.{lowest_says}
use Rattle.field.specs.Field.{parity_named, cadence_number}
use Rattle.telecine.proofs.Claims as telecine
use Rattle.filmdesk.specs.Kept.{detector_in, keeping}
use Rattle.filmdesk.specs.Film.{picture_named, push_state_no}
use Rattle.filmdesk.specs.History.{picture, number_in}
use Rattle.filmdesk.specs.Claims.{FoundAgain, AlwaysSized, FreshSized, ResetSized, MeasuredSized, PushSized}
use Rattle.filmdesk.specs.Claims.{BusySays, NewSays, StateSays, PredictSays, MeasuredSays, PushSays}
use Rattle.filmdesk.specs.Claims.{RefusedLeaves, TooShort, BytesStay, RefusalKnown, CodesSettle, ThirdDemand, LockedOverCalls, PredictOverCalls}
use Rattle.filmdesk.proofs.States as states
use Rattle.filmdesk.proofs.Demand as demand

-- ---- numbers given back
pub busy_says : BusySays
unfolding rising
busy_says n bytes room parity = lowest_says _ tt

pub new_says : NewSays
unfolding rising
new_says state = lowest_says _ tt

pub state_says : StateSays
unfolding rising
state_says state = lowest_says _ tt

pub predict_says : PredictSays
unfolding rising
predict_says state ahead = lowest_says _ tt

pub measured_says : MeasuredSays
unfolding rising
measured_says parity present state d = lowest_says _ tt

pub push_says : PushSays
unfolding rising
push_says n parity bytes room state d = lowest_says _ tt

-- ---- states
pub found_again : FoundAgain
found_again = states.found_again

pub always_sized : AlwaysSized
always_sized = states.always_sized

pub fresh_sized : FreshSized
fresh_sized = states.fresh_sized

pub reset_sized : ResetSized
reset_sized = states.reset_sized

pub measured_sized : MeasuredSized
measured_sized = states.measured_sized

pub push_sized : PushSized
push_sized = states.push_sized

-- ---- over any calls
pub refused_leaves : RefusedLeaves
refused_leaves = demand.refused_leaves

pub too_short : TooShort
too_short = demand.too_short

pub bytes_stay : BytesStay
bytes_stay = demand.bytes_stay

pub refusal_known : RefusalKnown
refusal_known = demand.refusal_known

pub third_demand : ThirdDemand
third_demand = demand.third_demand

pub locked_over_calls : LockedOverCalls
locked_over_calls = demand.locked_over_calls

pub predict_over_calls : PredictOverCalls
predict_over_calls = demand.predict_over_calls

-- ---- stray bits
pub codes_settle : CodesSettle
codes_settle l parity byte plane plane' n long same =
    let d = detector_in l.state in
    let settled = telecine.codes_settle (record { detector = d; store = l.store }) plane plane' (picture_named n) (parity_named parity) long same in
    let number : number_in l (picture parity plane n) ≡ number_in l (picture parity plane' n) =
    (λ i. push_state_no n parity (long i) (length l.store) (length l.state) d) in (
      number,
      (λ i. written (number i) (cadence_number (settled.1 i)) byte),
      (λ i. record {
        state = written (number i) (keeping (settled.2 i).detector l.state) l.state;
        store = written (number i) (settled.2 i).store l.store;
      }),
    )
