-- Made by tools/calls from the exports; not to be changed by hand.
-- Nothing else would satisfy a contract of `weavedesk`.
use mathlib.Core.Path.{refl}
use Rattle.weavedesk.proofs.FormatNumbersFromFormat.from.Kinds as from_kinds
use Rattle.weavedesk.proofs.FormatNumbersFromFormat.from.Reads as from
use Rattle.weavedesk.proofs.desk_weave.Kinds as desk_weave_kinds
use Rattle.weavedesk.proofs.desk_weave.Reads as desk_weave
use Rattle.weavedesk.proofs.desk_line_number.Kinds as desk_line_number_kinds
use Rattle.weavedesk.proofs.desk_line_number.Reads as desk_line_number
use Rattle.weavedesk.proofs.desk_woven_line.Kinds as desk_woven_line_kinds
use Rattle.weavedesk.proofs.desk_woven_line.Reads as desk_woven_line
use Rattle.weavedesk.proofs.desk_woven.Kinds as desk_woven_kinds
use Rattle.weavedesk.proofs.desk_woven.Reads as desk_woven
use Rattle.weavedesk.proofs.desk_readback_sizes.Kinds as desk_readback_sizes_kinds
use Rattle.weavedesk.proofs.desk_readback_sizes.Reads as desk_readback_sizes
use Rattle.weavedesk.proofs.desk_readback_copy.Kinds as desk_readback_copy_kinds
use Rattle.weavedesk.proofs.desk_readback_copy.Reads as desk_readback_copy
use Rattle.weavedesk.proofs.desk_weaver_new.Kinds as desk_weaver_new_kinds
use Rattle.weavedesk.proofs.desk_weaver_new.Reads as desk_weaver_new
use Rattle.weavedesk.proofs.desk_weaver_clear.Kinds as desk_weaver_clear_kinds
use Rattle.weavedesk.proofs.desk_weaver_clear.Reads as desk_weaver_clear
use Rattle.weavedesk.proofs.desk_weaver_push.Kinds as desk_weaver_push_kinds
use Rattle.weavedesk.proofs.desk_weaver_push.Reads as desk_weaver_push
use Rattle.unique.specs.Unique.{OneAnswer}
use Rattle.unique.proofs.Law.{same, ◌and◌, once}

pub from_once : OneAnswer 0 from_kinds.ps from_kinds.r from.Post
from_once κs a x y u v p q = (same p q, refl)

pub desk_weave_once : OneAnswer 9 desk_weave_kinds.ps desk_weave_kinds.r desk_weave.Post
desk_weave_once =
    once 9 desk_weave_kinds.ps desk_weave_kinds.r desk_weave.Post (λ κs a x y s t p q. same p.0 q.0)
    (λ κs a x u v p q. refl and refl and refl and refl and refl and refl and refl and refl and same p.1.0 q.1.0 and same p.1.1.0 q.1.1.0
    and same p.1.1.1 q.1.1.1 and refl)

pub desk_line_number_once : OneAnswer 0 desk_line_number_kinds.ps desk_line_number_kinds.r desk_line_number.Post
desk_line_number_once κs a x y u v p q = (same p q, refl)

pub desk_woven_line_once : OneAnswer 2 desk_woven_line_kinds.ps desk_woven_line_kinds.r desk_woven_line.Post
desk_woven_line_once =
    once 2 desk_woven_line_kinds.ps desk_woven_line_kinds.r desk_woven_line.Post (λ κs a x y s t p q. same p.0 q.0)
    (λ κs a x u v p q. refl and refl and refl and refl and refl and same p.1 q.1 and refl)

pub desk_woven_once : OneAnswer 0 desk_woven_kinds.ps desk_woven_kinds.r desk_woven.Post
desk_woven_once κs a x y u v p q = (same p q, refl)

pub desk_readback_sizes_once : OneAnswer 6 desk_readback_sizes_kinds.ps desk_readback_sizes_kinds.r desk_readback_sizes.Post
desk_readback_sizes_once =
    once 6 desk_readback_sizes_kinds.ps desk_readback_sizes_kinds.r desk_readback_sizes.Post (λ κs a x y s t p q. same p.0 q.0)
    (λ κs a x u v p q. refl and refl and refl and refl and same p.1.0 q.1.0 and same p.1.1.0 q.1.1.0 and same p.1.1.1 q.1.1.1 and refl)

pub desk_readback_copy_once : OneAnswer 6 desk_readback_copy_kinds.ps desk_readback_copy_kinds.r desk_readback_copy.Post
desk_readback_copy_once =
    once 6 desk_readback_copy_kinds.ps desk_readback_copy_kinds.r desk_readback_copy.Post (λ κs a x y s t p q. same p.0 q.0)
    (λ κs a x u v p q. refl and refl and refl and refl and same p.1.0 q.1.0 and same p.1.1.0 q.1.1.0 and same p.1.1.1 q.1.1.1 and refl)

pub desk_weaver_new_once : OneAnswer 1 desk_weaver_new_kinds.ps desk_weaver_new_kinds.r desk_weaver_new.Post
desk_weaver_new_once =
    once 1 desk_weaver_new_kinds.ps desk_weaver_new_kinds.r desk_weaver_new.Post (λ κs a x y s t p q. same p.0 q.0)
    (λ κs a x u v p q. same p.1 q.1 and refl)

pub desk_weaver_clear_once : OneAnswer 1 desk_weaver_clear_kinds.ps desk_weaver_clear_kinds.r desk_weaver_clear.Post
desk_weaver_clear_once =
    once 1 desk_weaver_clear_kinds.ps desk_weaver_clear_kinds.r desk_weaver_clear.Post (λ κs a x y s t p q. same p.0 q.0)
    (λ κs a x u v p q. same p.1 q.1 and refl)

pub desk_weaver_push_once : OneAnswer 11 desk_weaver_push_kinds.ps desk_weaver_push_kinds.r desk_weaver_push.Post
desk_weaver_push_once =
    once 11 desk_weaver_push_kinds.ps desk_weaver_push_kinds.r desk_weaver_push.Post (λ κs a x y s t p q. same p.0 q.0)
    (λ κs a x u v p q. same p.1.0 q.1.0 and refl and refl and refl and refl and refl and refl and refl and same p.1.1.0 q.1.1.0
    and same p.1.1.1.0 q.1.1.1.0 and same p.1.1.1.1.0 q.1.1.1.1.0 and same p.1.1.1.1.1.0 q.1.1.1.1.1.0 and same p.1.1.1.1.1.1.0 q.1.1.1.1.1.1.0
    and same p.1.1.1.1.1.1.1.0 q.1.1.1.1.1.1.1.0 and same p.1.1.1.1.1.1.1.1 q.1.1.1.1.1.1.1.1 and refl)
