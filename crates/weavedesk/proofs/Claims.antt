-- The claims of specs/Claims.antt.
use Rattle.laws.specs.Refusal.{rising}
use Rattle.laws.proofs.Claims.{lowest_says}
use Rattle.weavedesk.specs.Claims.{WeaveSays, LineSays, LineOutSays, SizesSays, ReadbackSays, NewSays, ClearSays, PushSays}
use Rattle.weavedesk.specs.Claims.{AskThenCopy, OneFrame, FoundAgain, AlwaysSized, PushSized, PairsWoven, RefusalKnown, RefusedLeaves, PlacesStay, TooShort}
use Rattle.weavedesk.proofs.Readback as readback
use Rattle.weavedesk.proofs.States as states
use Rattle.weavedesk.proofs.Demand as demand

-- ---- numbers given back
pub weave_says : WeaveSays
unfolding rising
weave_says top top-luma top-cb top-cr bottom bottom-luma bottom-cb bottom-cr luma_room cb_room cr_room = lowest_says _ tt

pub line_says : LineSays
unfolding rising
line_says t top-bytes b bottom-bytes y = lowest_says _ tt

pub sizes_says : SizesSays
unfolding rising
sizes_says about luma second third = lowest_says _ tt

pub readback_says : ReadbackSays
unfolding rising
readback_says about luma second third luma_room cb_room cr_room = lowest_says _ tt

pub new_says : NewSays
unfolding rising
new_says state = lowest_says _ tt

pub clear_says : ClearSays
unfolding rising
clear_says state = lowest_says _ tt

pub line_out_says : LineOutSays
unfolding rising
line_out_says t top-bytes b bottom-bytes y room = lowest_says _ tt

pub push_says : PushSays
unfolding rising
push_says l o = lowest_says _ tt

-- ---- a frame read back
pub ask_then_copy : AskThenCopy
ask_then_copy = readback.ask_then_copy

pub one_frame_lem : OneFrame
one_frame_lem = readback.one_frame_lem

-- ---- states
pub found_again : FoundAgain
found_again = states.found_again

pub always_sized : AlwaysSized
always_sized = states.always_sized

pub push_sized : PushSized
push_sized = states.push_sized

-- ---- over calls
pub pairs_woven : PairsWoven
pairs_woven = demand.pairs_woven

pub refusal_known : RefusalKnown
refusal_known = demand.refusal_known

pub refused_leaves : RefusedLeaves
refused_leaves = demand.refused_leaves

pub places_stay : PlacesStay
places_stay = demand.places_stay

pub too_short : TooShort
too_short = demand.too_short
