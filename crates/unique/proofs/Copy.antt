-- Nothing else would satisfy a contract of `copy`.
use mathlib.Core.Path.{refl}
use Rattle.copy.proofs.part.Kinds as part_kinds
use Rattle.copy.proofs.part.Reads as part
use Rattle.copy.proofs.copy_front.Kinds as copy_front_kinds
use Rattle.copy.proofs.copy_front.Reads as copy_front
use Rattle.unique.specs.Unique.{OneAnswer, OneContent, placed}
use Rattle.unique.proofs.Law.{same, ◌and◌}

pub part_once : OneContent 1 part_kinds.ps part_kinds.r (λ κs x. placed x) part.Post
part_once κs a x y u v p q = ((λ i. (same p.1 q.1 i, same p.0 q.0 i)), refl)

pub copy_front_once : OneAnswer 2 copy_front_kinds.ps copy_front_kinds.r copy_front.Post
copy_front_once κs a x y u v p q = (refl, same p q and refl)
