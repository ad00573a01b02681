-- Nothing else would satisfy a contract of `weave`.
use mathlib.Core.Path.{refl}
use Rattle.refusal.proofs.Claims.{one_done}
use Rattle.weave.proofs.Field.is_good.Kinds as is_good_kinds
use Rattle.weave.proofs.Field.is_good.Reads as is_good
use Rattle.weave.proofs.Field.chroma_fits.Kinds as chroma_fits_kinds
use Rattle.weave.proofs.Field.chroma_fits.Reads as chroma_fits
use Rattle.weave.proofs.Field.is_whole.Kinds as is_whole_kinds
use Rattle.weave.proofs.Field.is_whole.Reads as is_whole
use Rattle.weave.proofs.Field.has_room.Kinds as has_room_kinds
use Rattle.weave.proofs.Field.has_room.Reads as has_room
use Rattle.weave.proofs.weave.Kinds as weave_kinds
use Rattle.weave.proofs.weave.Reads as weave
use Rattle.weave.proofs.line_fits.Kinds as line_fits_kinds
use Rattle.weave.proofs.line_fits.Reads as line_fits
use Rattle.weave.proofs.woven_line.Kinds as woven_line_kinds
use Rattle.weave.proofs.woven_line.Reads as woven_line
use Rattle.weave.proofs.woven.Kinds as woven_kinds
use Rattle.weave.proofs.woven.Reads as woven
use Rattle.unique.specs.Unique.{OneAnswer, OneContent, placed}
use Rattle.unique.proofs.Law.{same, ◌and◌, once}

pub is_good_once : OneAnswer 0 is_good_kinds.ps is_good_kinds.r is_good.Post
is_good_once κs a x y u v p q = (same p q, refl)

pub chroma_fits_once : OneAnswer 0 chroma_fits_kinds.ps chroma_fits_kinds.r chroma_fits.Post
chroma_fits_once κs a x y u v p q = (same p q, refl)

pub is_whole_once : OneAnswer 0 is_whole_kinds.ps is_whole_kinds.r is_whole.Post
is_whole_once κs a x y u v p q = (same p q, refl)

pub has_room_once : OneAnswer 0 has_room_kinds.ps has_room_kinds.r has_room.Post
has_room_once κs a x y u v p q = (same p q, refl)

pub weave_once : OneAnswer 9 weave_kinds.ps weave_kinds.r weave.Post
weave_once =
    once 9 weave_kinds.ps weave_kinds.r weave.Post (λ κs a x y s t p q. one_done x y (same p.0 q.0))
    (λ κs a x u v p q. same p.1.0 q.1.0 and same p.1.1.0 q.1.1.0 and same p.1.1.1 q.1.1.1 and refl)

pub line_fits_once : OneAnswer 0 line_fits_kinds.ps line_fits_kinds.r line_fits.Post
line_fits_once κs a x y u v p q = (one_done x y (same p q), refl)

pub woven_line_once : OneContent 1 woven_line_kinds.ps woven_line_kinds.r (λ κs x. placed x) woven_line.Post
woven_line_once κs a x y u v p q = ((λ i. (same p.1 q.1 i, same p.0 q.0 i)), refl)

pub woven_once : OneAnswer 0 woven_kinds.ps woven_kinds.r woven.Post
woven_once κs a x y u v p q = (same p q, refl)
