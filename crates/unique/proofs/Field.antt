-- Nothing else would satisfy a contract of `field`.
use mathlib.Core.Path.{refl}
use Rattle.field.proofs.Parity.first_row.Kinds as first_row_kinds
use Rattle.field.proofs.Parity.first_row.Reads as first_row
use Rattle.field.proofs.Parity.other.Kinds as other_kinds
use Rattle.field.proofs.Parity.other.Reads as other
use Rattle.field.proofs.Parity.named.Kinds as named_kinds
use Rattle.field.proofs.Parity.named.Reads as named
use Rattle.field.proofs.Cadence.number.Kinds as number_kinds
use Rattle.field.proofs.Cadence.number.Reads as number
use Rattle.field.proofs.first_field.Kinds as first_field_kinds
use Rattle.field.proofs.first_field.Reads as first_field
use Rattle.unique.specs.Unique.{OneAnswer}
use Rattle.unique.proofs.Law.{same}

pub first_row_once : OneAnswer 0 first_row_kinds.ps first_row_kinds.r first_row.Post
first_row_once κs a x y u v p q = (same p q, refl)

pub other_once : OneAnswer 0 other_kinds.ps other_kinds.r other.Post
other_once κs a x y u v p q = (same p q, refl)

pub named_once : OneAnswer 0 named_kinds.ps named_kinds.r named.Post
named_once κs a x y u v p q = (same p q, refl)

pub number_once : OneAnswer 0 number_kinds.ps number_kinds.r number.Post
number_once κs a x y u v p q = (same p q, refl)

pub first_field_once : OneAnswer 0 first_field_kinds.ps first_field_kinds.r first_field.Post
first_field_once κs a x y u v p q = (same p q, refl)
