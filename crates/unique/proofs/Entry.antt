-- Nothing else would satisfy a contract of `entry`.
use mathlib.Core.Path.{refl}
use Rattle.refusal.proofs.Claims.{one_done}
use Rattle.entry.proofs.word_at.Kinds as word_at_kinds
use Rattle.entry.proofs.word_at.Reads as word_at
use Rattle.entry.proofs.entry_of.Kinds as entry_of_kinds
use Rattle.entry.proofs.entry_of.Reads as entry_of
use Rattle.entry.proofs.Entry.good.Kinds as good_kinds
use Rattle.entry.proofs.Entry.good.Reads as good
use Rattle.entry.proofs.Entry.first.Kinds as first_kinds
use Rattle.entry.proofs.Entry.first.Reads as first
use Rattle.entry.proofs.Entry.measured.Kinds as measured_kinds
use Rattle.entry.proofs.Entry.measured.Reads as measured
use Rattle.entry.proofs.cadences.Kinds as cadences_kinds
use Rattle.entry.proofs.cadences.Reads as cadences
use Rattle.unique.specs.Unique.{OneAnswer}
use Rattle.unique.proofs.Law.{same, ◌and◌, once}

pub word_at_once : OneAnswer 1 word_at_kinds.ps word_at_kinds.r word_at.Post
word_at_once κs a x y u v p q = (same p q, refl)

pub entry_of_once : OneAnswer 1 entry_of_kinds.ps entry_of_kinds.r entry_of.Post
entry_of_once κs a x y u v p q = (same p q, refl)

pub good_once : OneAnswer 0 good_kinds.ps good_kinds.r good.Post
good_once κs a x y u v p q = (same p q, refl)

pub first_once : OneAnswer 0 first_kinds.ps first_kinds.r first.Post
first_once κs a x y u v p q = (same p q, refl)

pub measured_once : OneAnswer 0 measured_kinds.ps measured_kinds.r measured.Post
measured_once κs a x y u v p q = (same p q, refl)

pub cadences_once : OneAnswer 2 cadences_kinds.ps cadences_kinds.r cadences.Post
cadences_once =
    once 2 cadences_kinds.ps cadences_kinds.r cadences.Post (λ κs a x y s t p q. one_done x y (same p.0 q.0))
    (λ κs a x u v p q. same p.1 q.1 and refl)
