-- Nothing else would satisfy a contract of `plane`.
use mathlib.Core.Path.{refl}
use Rattle.refusal.proofs.Claims.{one_answered}
use Rattle.plane.proofs.Layout.components.Kinds as components_kinds
use Rattle.plane.proofs.Layout.components.Reads as components
use Rattle.plane.proofs.Layout.component.Kinds as component_kinds
use Rattle.plane.proofs.Layout.component.Reads as component
use Rattle.plane.proofs.Layout.is_biplanar.Kinds as is_biplanar_kinds
use Rattle.plane.proofs.Layout.is_biplanar.Reads as is_biplanar
use Rattle.plane.proofs.Layout.is_alone.Kinds as is_alone_kinds
use Rattle.plane.proofs.Layout.is_alone.Reads as is_alone
use Rattle.plane.proofs.sample_bytes.Kinds as sample_bytes_kinds
use Rattle.plane.proofs.sample_bytes.Reads as sample_bytes
use Rattle.plane.proofs.within.Kinds as within_kinds
use Rattle.plane.proofs.within.Reads as within
use Rattle.plane.proofs.Shape.is_good.Kinds as is_good_kinds
use Rattle.plane.proofs.Shape.is_good.Reads as is_good
use Rattle.plane.proofs.ShapeFromGrid.from.Kinds as from_kinds
use Rattle.plane.proofs.ShapeFromGrid.from.Reads as from
use Rattle.plane.proofs.Shape.bytes.Kinds as bytes_kinds
use Rattle.plane.proofs.Shape.bytes.Reads as bytes
use Rattle.plane.proofs.Layout.shift.Kinds as shift_kinds
use Rattle.plane.proofs.Layout.shift.Reads as shift
use Rattle.plane.proofs.full_code.Kinds as full_code_kinds
use Rattle.plane.proofs.full_code.Reads as full_code
use Rattle.plane.proofs.code_at.Kinds as code_at_kinds
use Rattle.plane.proofs.code_at.Reads as code_at
use Rattle.plane.proofs.value_at.Kinds as value_at_kinds
use Rattle.plane.proofs.value_at.Reads as value_at
use Rattle.plane.proofs.in_reach.Kinds as in_reach_kinds
use Rattle.plane.proofs.in_reach.Reads as in_reach
use Rattle.plane.proofs.biased.Kinds as biased_kinds
use Rattle.plane.proofs.biased.Reads as biased
use Rattle.plane.proofs.row_parity.Kinds as row_parity_kinds
use Rattle.plane.proofs.row_parity.Reads as row_parity
use Rattle.plane.proofs.code.Kinds as code_kinds
use Rattle.plane.proofs.code.Reads as code
use Rattle.plane.proofs.at.Kinds as at_kinds
use Rattle.plane.proofs.at.Reads as at
use Rattle.plane.proofs.Shape.agrees.Kinds as agrees_kinds
use Rattle.plane.proofs.Shape.agrees.Reads as agrees
use Rattle.plane.proofs.half_of.Kinds as half_of_kinds
use Rattle.plane.proofs.half_of.Reads as half_of
use Rattle.plane.proofs.Shape.chroma_agrees.Kinds as chroma_agrees_kinds
use Rattle.plane.proofs.Shape.chroma_agrees.Reads as chroma_agrees
use Rattle.plane.proofs.Planes.planar.Kinds as planar_kinds
use Rattle.plane.proofs.Planes.planar.Reads as planar
use Rattle.plane.proofs.Planes.biplanar.Kinds as biplanar_kinds
use Rattle.plane.proofs.Planes.biplanar.Reads as biplanar
use Rattle.unique.specs.Unique.{OneAnswer}
use Rattle.unique.proofs.Law.{same}

pub components_once : OneAnswer 0 components_kinds.ps components_kinds.r components.Post
components_once κs a x y u v p q = (same p.0 q.0, refl)

pub component_once : OneAnswer 0 component_kinds.ps component_kinds.r component.Post
component_once κs a x y u v p q = (same p.0 q.0, refl)

pub is_biplanar_once : OneAnswer 0 is_biplanar_kinds.ps is_biplanar_kinds.r is_biplanar.Post
is_biplanar_once κs a x y u v p q = (same p q, refl)

pub is_alone_once : OneAnswer 0 is_alone_kinds.ps is_alone_kinds.r is_alone.Post
is_alone_once κs a x y u v p q = (same p q, refl)

pub sample_bytes_once : OneAnswer 0 sample_bytes_kinds.ps sample_bytes_kinds.r sample_bytes.Post
sample_bytes_once κs a x y u v p q = (same p.0 q.0, refl)

pub within_once : OneAnswer 0 within_kinds.ps within_kinds.r within.Post
within_once κs a x y u v p q = (same p q, refl)

pub is_good_once : OneAnswer 0 is_good_kinds.ps is_good_kinds.r is_good.Post
is_good_once κs a x y u v p q = (same p q, refl)

pub from_once : OneAnswer 0 from_kinds.ps from_kinds.r from.Post
from_once κs a x y u v p q = (same p q, refl)

pub bytes_once : OneAnswer 0 bytes_kinds.ps bytes_kinds.r bytes.Post
bytes_once κs a x y u v p q = (same p q, refl)

pub shift_once : OneAnswer 0 shift_kinds.ps shift_kinds.r shift.Post
shift_once κs a x y u v p q = (same p.0 q.0, refl)

pub full_code_once : OneAnswer 0 full_code_kinds.ps full_code_kinds.r full_code.Post
full_code_once κs a x y u v p q = (same p q, refl)

pub code_at_once : OneAnswer 1 code_at_kinds.ps code_at_kinds.r code_at.Post
code_at_once κs a x y u v p q = (same p q, refl)

pub value_at_once : OneAnswer 1 value_at_kinds.ps value_at_kinds.r value_at.Post
value_at_once κs a x y u v p q = (same p.0 q.0, refl)

pub in_reach_once : OneAnswer 0 in_reach_kinds.ps in_reach_kinds.r in_reach.Post
in_reach_once κs a x y u v p q = (same p q, refl)

pub biased_once : OneAnswer 0 biased_kinds.ps biased_kinds.r biased.Post
biased_once κs a x y u v p q = (same p q, refl)

pub row_parity_once : OneAnswer 0 row_parity_kinds.ps row_parity_kinds.r row_parity.Post
row_parity_once κs a x y u v p q = (same p q, refl)

pub code_once : OneAnswer 1 code_kinds.ps code_kinds.r code.Post
code_once κs a x y u v p q = (one_answered _ x y (same p.0 q.0) (same p.1 q.1), refl)

pub at_once : OneAnswer 1 at_kinds.ps at_kinds.r at.Post
at_once κs a x y u v p q = (one_answered _ x y (same p.0 q.0) (same p.1 q.1), refl)

pub agrees_once : OneAnswer 0 agrees_kinds.ps agrees_kinds.r agrees.Post
agrees_once κs a x y u v p q = (same p q, refl)

pub half_of_once : OneAnswer 0 half_of_kinds.ps half_of_kinds.r half_of.Post
half_of_once κs a x y u v p q = (same p q, refl)

pub chroma_agrees_once : OneAnswer 0 chroma_agrees_kinds.ps chroma_agrees_kinds.r chroma_agrees.Post
chroma_agrees_once κs a x y u v p q = (same p q, refl)

pub planar_once : OneAnswer 0 planar_kinds.ps planar_kinds.r planar.Post
planar_once κs a x y u v p q = (same p q, refl)

pub biplanar_once : OneAnswer 0 biplanar_kinds.ps biplanar_kinds.r biplanar.Post
biplanar_once κs a x y u v p q = (same p q, refl)
