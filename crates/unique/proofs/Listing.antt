-- Nothing else would satisfy a contract of `listing`.
use mathlib.Core.Path.{refl, ap, ap₂}
use Rattle.listing.proofs.write.Kinds as write_kinds
use Rattle.listing.proofs.write.Reads as write
use Rattle.listing.proofs.Lister.start.Kinds as start_kinds
use Rattle.listing.proofs.Lister.start.Reads as start
use Rattle.listing.proofs.Lister.came.Kinds as came_kinds
use Rattle.listing.proofs.Lister.came.Reads as came
use Rattle.listing.proofs.Lister.step.Kinds as step_kinds
use Rattle.listing.proofs.Lister.step.Reads as step
use Rattle.pages.specs.declared.Ask.{Ask}
use Rattle.pages.specs.Run.{Program}
use Rattle.listing.specs.declared.Lister.{Lister}
use Rattle.listing.specs.Steps.{Fed}
use Rattle.unique.specs.Unique.{OneAnswer}
use Rattle.unique.proofs.Law.{same, ◌and◌, once}

pub write_once : OneAnswer 1 write_kinds.ps write_kinds.r write.Post
write_once =
    once 1 write_kinds.ps write_kinds.r write.Post (λ κs a x y s t p q. same p.0 q.0)
    (λ κs a x u v p q. same p.1.0 q.1.0 and refl)

pub start_once : OneAnswer 0 start_kinds.ps start_kinds.r start.Post
start_once κs a x y u v p q = (same p q, refl)

pub came_once : OneAnswer 1 came_kinds.ps came_kinds.r came.Post
came_once κs a x y u v p q = (same p q, refl)

-- the contract of a step is about the program as a whole, which has each part by its name
lister_of : Program Fed → Lister
lister_of p = record { reel = p.state.reel; held = p.held; used = p.used; ended = p.ended }

pub step_once : OneAnswer 3 step_kinds.ps step_kinds.r step.Post
unfolding lister_of
step_once =
    once 3 step_kinds.ps step_kinds.r step.Post
    (λ κs a x y s t p q. ap₂ (λ (l : Lister) (ask : Ask). record { lister = l; ask = ask }) (ap lister_of (same p.1 q.1)) (same p.0 q.0))
    (λ κs a x u v p q.
    let e = same p.1 q.1 in
    refl and ap (λ (w : Program Fed). w.buffer) e and ap (λ (w : Program Fed). w.state.store) e and ap (λ (w : Program Fed). w.page) e and refl)
