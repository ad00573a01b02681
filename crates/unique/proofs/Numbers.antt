-- Nothing else would satisfy a contract of `numbers`.
use mathlib.Core.Path.{refl}
use Rattle.numbers.proofs.at_most_65535.Kinds as at_most_65535_kinds
use Rattle.numbers.proofs.at_most_65535.Reads as at_most_65535
use Rattle.numbers.proofs.at_most_255.Kinds as at_most_255_kinds
use Rattle.numbers.proofs.at_most_255.Reads as at_most_255
use Rattle.numbers.proofs.shape_named.Kinds as shape_named_kinds
use Rattle.numbers.proofs.shape_named.Reads as shape_named
use Rattle.numbers.proofs.grid_named.Kinds as grid_named_kinds
use Rattle.numbers.proofs.grid_named.Reads as grid_named
use Rattle.unique.specs.Unique.{OneAnswer}
use Rattle.unique.proofs.Law.{same}

pub at_most_65535_once : OneAnswer 0 at_most_65535_kinds.ps at_most_65535_kinds.r at_most_65535.Post
at_most_65535_once κs a x y u v p q = (same p q, refl)

pub at_most_255_once : OneAnswer 0 at_most_255_kinds.ps at_most_255_kinds.r at_most_255.Post
at_most_255_once κs a x y u v p q = (same p q, refl)

pub shape_named_once : OneAnswer 0 shape_named_kinds.ps shape_named_kinds.r shape_named.Post
shape_named_once κs a x y u v p q = (same p q, refl)

pub grid_named_once : OneAnswer 0 grid_named_kinds.ps grid_named_kinds.r grid_named.Post
grid_named_once κs a x y u v p q = (same p q, refl)
