-- Nothing else would satisfy a contract of `pages`.
use mathlib.Core.Path.{refl}
use Rattle.pages.proofs.Held.nothing.Kinds as nothing_kinds
use Rattle.pages.proofs.Held.nothing.Reads as nothing
use Rattle.pages.proofs.Held.count.Kinds as count_kinds
use Rattle.pages.proofs.Held.count.Reads as count
use Rattle.pages.proofs.Held.front.Kinds as front_kinds
use Rattle.pages.proofs.Held.front.Reads as front
use Rattle.pages.proofs.Held.came.Kinds as came_kinds
use Rattle.pages.proofs.Held.came.Reads as came
use Rattle.pages.proofs.Held.unit.Kinds as unit_kinds
use Rattle.pages.proofs.Held.unit.Reads as unit
use Rattle.pages.proofs.Held.without.Kinds as without_kinds
use Rattle.pages.proofs.Held.without.Reads as without
use Rattle.pages.proofs.has_room.Kinds as has_room_kinds
use Rattle.pages.proofs.has_room.Reads as has_room
use Rattle.pages.proofs.next.Kinds as next_kinds
use Rattle.pages.proofs.next.Reads as next
use Rattle.unique.specs.Unique.{OneAnswer, OneContent}
use Rattle.unique.proofs.Law.{same, ◌and◌, once}

pub nothing_once : OneAnswer 0 nothing_kinds.ps nothing_kinds.r nothing.Post
nothing_once κs a x y u v p q = (same p q, refl)

pub count_once : OneAnswer 1 count_kinds.ps count_kinds.r count.Post
count_once κs a x y u v p q = (same p q, refl)

pub front_once : OneAnswer 1 front_kinds.ps front_kinds.r front.Post
front_once =
    once 1 front_kinds.ps front_kinds.r front.Post (λ κs a x y s t p q. same p.0 q.0)
    (λ κs a x u v p q. refl and same p.1 q.1 and refl)

pub came_once : OneAnswer 1 came_kinds.ps came_kinds.r came.Post
came_once κs a x y u v p q = (same p q, refl)

pub unit_once : OneContent 1 unit_kinds.ps unit_kinds.r (λ κs x. x.now) unit.Post
unit_once κs a x y u v p q = (same p q, refl)

pub without_once : OneAnswer 0 without_kinds.ps without_kinds.r without.Post
without_once κs a x y u v p q = (same p q, refl)

pub has_room_once : OneAnswer 0 has_room_kinds.ps has_room_kinds.r has_room.Post
has_room_once κs a x y u v p q = (same p q, refl)

pub next_once : OneAnswer 0 next_kinds.ps next_kinds.r next.Post
next_once κs a x y u v p q = (same p q, refl)
