-- Made by tools/calls from the exports; not to be changed by hand.
-- Nothing else would satisfy a contract of `picturedesk`.
use mathlib.Core.Path.{refl}
use Rattle.picturedesk.proofs.desk_picture.Kinds as desk_picture_kinds
use Rattle.picturedesk.proofs.desk_picture.Reads as desk_picture
use Rattle.unique.specs.Unique.{OneAnswer}
use Rattle.unique.proofs.Law.{same, ◌and◌, once}

pub desk_picture_once : OneAnswer 2 desk_picture_kinds.ps desk_picture_kinds.r desk_picture.Post
desk_picture_once =
    once 2 desk_picture_kinds.ps desk_picture_kinds.r desk_picture.Post (λ κs a x y s t p q. same p.0 q.0)
    (λ κs a x u v p q. refl and refl and refl and refl and refl and refl and refl and refl and refl and refl and refl and refl and refl and refl
    and refl and same p.1 q.1 and refl)
