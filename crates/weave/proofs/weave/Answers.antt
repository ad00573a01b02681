use mathlib.Core.Path.{sym}
use mathlib.Core.Bool.{◌&&◌}
use Rattle.weave.specs.Weave.{given_of}
use Rattle.weave.proofs.Judged.{judged}
use Rattle.weave.proofs.weave.Goals as goal

pub weave_plane-requires : goal.weave_plane-requires
weave_plane-requires c =
    let a = c.args in
    (judged (given_of a.top a.top_luma.now a.top_cb.now a.top_cr.now) (given_of a.bottom a.bottom_luma.now a.bottom_cb.now a.bottom_cr.now) _ _ _ (λ i. c.is_whole.ensures i && c.is_whole-2.ensures i) c.has_room-room.ensures (sym c.in_ok-weavable.ensures)).0

pub weave_plane-requires-2 : goal.weave_plane-requires-2
weave_plane-requires-2 c =
    let a = c.args in
    (judged (given_of a.top a.top_luma.now a.top_cb.now a.top_cr.now) (given_of a.bottom a.bottom_luma.now a.bottom_cb.now a.bottom_cr.now) _ _ _ (λ i. c.is_whole.ensures i && c.is_whole-2.ensures i) c.has_room-room.ensures (sym c.in_ok-weavable.ensures)).1

pub weave_plane-requires-3 : goal.weave_plane-requires-3
weave_plane-requires-3 c =
    let a = c.args in
    (judged (given_of a.top a.top_luma.now a.top_cb.now a.top_cr.now) (given_of a.bottom a.bottom_luma.now a.bottom_cb.now a.bottom_cr.now) _ _ _ (λ i. c.is_whole.ensures i && c.is_whole-2.ensures i) c.has_room-room.ensures (sym c.in_ok-weavable.ensures)).2
