-- Nothing else would satisfy a contract of `packed`.
use mathlib.Core.Path.{refl}
use Rattle.refusal.proofs.Claims.{one_done}
use Rattle.packed.proofs.number_at.Kinds as number_at_kinds
use Rattle.packed.proofs.number_at.Reads as number_at
use Rattle.packed.proofs.size_in.Kinds as size_in_kinds
use Rattle.packed.proofs.size_in.Reads as size_in
use Rattle.packed.proofs.byte_in.Kinds as byte_in_kinds
use Rattle.packed.proofs.byte_in.Reads as byte_in
use Rattle.packed.proofs.write_numbers.Kinds as write_numbers_kinds
use Rattle.packed.proofs.write_numbers.Reads as write_numbers
use Rattle.unique.specs.Unique.{OneAnswer}
use Rattle.unique.proofs.Law.{same, ◌and◌, once}

pub number_at_once : OneAnswer 1 number_at_kinds.ps number_at_kinds.r number_at.Post
number_at_once κs a x y u v p q = (same p q, refl)

pub size_in_once : OneAnswer 0 size_in_kinds.ps size_in_kinds.r size_in.Post
size_in_once κs a x y u v p q = (same p q, refl)

pub byte_in_once : OneAnswer 0 byte_in_kinds.ps byte_in_kinds.r byte_in.Post
byte_in_once κs a x y u v p q = (same p q, refl)

pub write_numbers_once : OneAnswer 2 write_numbers_kinds.ps write_numbers_kinds.r write_numbers.Post
write_numbers_once =
    once 2 write_numbers_kinds.ps write_numbers_kinds.r write_numbers.Post (λ κs a x y s t p q. one_done x y (same p.0 q.0))
    (λ κs a x u v p q. same p.1 q.1 and refl)
