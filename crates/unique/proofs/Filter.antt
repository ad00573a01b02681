-- Nothing else would satisfy a contract of `filter`.
use Prim.Native.Nat.{ℕ}
use mathlib.Core.Path.{refl}
use Rattle.laws.specs.Refusal.{when_done}
use Rattle.refusal.proofs.Claims.{one_answered}
use Rattle.filter.specs.Making.{sample_in}
use Rattle.filter.proofs.Quality.named.Kinds as named_kinds
use Rattle.filter.proofs.Quality.named.Reads as named
use Rattle.filter.proofs.Rows.of.Kinds as of_kinds
use Rattle.filter.proofs.Rows.of.Reads as of
use Rattle.filter.proofs.Rows.field.Kinds as field_kinds
use Rattle.filter.proofs.Rows.field.Reads as field
use Rattle.filter.proofs.gap.Kinds as gap_kinds
use Rattle.filter.proofs.gap.Reads as gap
use Rattle.filter.proofs.mean.Kinds as mean_kinds
use Rattle.filter.proofs.mean.Reads as mean
use Rattle.filter.proofs.wider.Kinds as wider_kinds
use Rattle.filter.proofs.wider.Reads as wider
use Rattle.filter.proofs.beyond.Kinds as beyond_kinds
use Rattle.filter.proofs.beyond.Reads as beyond
use Rattle.filter.proofs.hold.Kinds as hold_kinds
use Rattle.filter.proofs.hold.Reads as hold
use Rattle.filter.proofs.cubic.Kinds as cubic_kinds
use Rattle.filter.proofs.cubic.Reads as cubic
use Rattle.filter.proofs.planes_good.Kinds as planes_good_kinds
use Rattle.filter.proofs.planes_good.Reads as planes_good
use Rattle.filter.proofs.planes_alike.Kinds as planes_alike_kinds
use Rattle.filter.proofs.planes_alike.Reads as planes_alike
use Rattle.filter.proofs.planes_whole.Kinds as planes_whole_kinds
use Rattle.filter.proofs.planes_whole.Reads as planes_whole
use Rattle.filter.proofs.rows_good.Kinds as rows_good_kinds
use Rattle.filter.proofs.rows_good.Reads as rows_good
use Rattle.filter.proofs.edge.Kinds as edge_kinds
use Rattle.filter.proofs.edge.Reads as edge
use Rattle.filter.proofs.sample.Kinds as sample_kinds
use Rattle.filter.proofs.sample.Reads as sample
use Rattle.unique.specs.Unique.{OneAnswer}
use Rattle.unique.proofs.Law.{same, same_by}

pub named_once : OneAnswer 0 named_kinds.ps named_kinds.r named.Post
named_once κs a x y u v p q = (same p q, refl)

pub of_once : OneAnswer 0 of_kinds.ps of_kinds.r of.Post
of_once κs a x y u v p q = (same p q, refl)

pub field_once : OneAnswer 0 field_kinds.ps field_kinds.r field.Post
field_once κs a x y u v p q = (same p q, refl)

pub gap_once : OneAnswer 0 gap_kinds.ps gap_kinds.r gap.Post
gap_once κs a x y u v p q = (same p q, refl)

pub mean_once : OneAnswer 0 mean_kinds.ps mean_kinds.r mean.Post
mean_once κs a x y u v p q = (same p q, refl)

pub wider_once : OneAnswer 0 wider_kinds.ps wider_kinds.r wider.Post
wider_once κs a x y u v p q = (same p q, refl)

pub beyond_once : OneAnswer 0 beyond_kinds.ps beyond_kinds.r beyond.Post
beyond_once κs a x y u v p q = (same p q, refl)

pub hold_once : OneAnswer 0 hold_kinds.ps hold_kinds.r hold.Post
hold_once κs a x y u v p q = (same p q, refl)

pub cubic_once : OneAnswer 0 cubic_kinds.ps cubic_kinds.r cubic.Post
cubic_once κs a x y u v p q = (same p q, refl)

pub planes_good_once : OneAnswer 0 planes_good_kinds.ps planes_good_kinds.r planes_good.Post
planes_good_once κs a x y u v p q = (same p q, refl)

pub planes_alike_once : OneAnswer 0 planes_alike_kinds.ps planes_alike_kinds.r planes_alike.Post
planes_alike_once κs a x y u v p q = (same p q, refl)

pub planes_whole_once : OneAnswer 0 planes_whole_kinds.ps planes_whole_kinds.r planes_whole.Post
planes_whole_once κs a x y u v p q = (same p q, refl)

pub rows_good_once : OneAnswer 0 rows_good_kinds.ps rows_good_kinds.r rows_good.Post
rows_good_once κs a x y u v p q = (same p q, refl)

pub edge_once : OneAnswer 1 edge_kinds.ps edge_kinds.r edge.Post
edge_once κs a x y u v p q = (one_answered _ x y (same p.0 q.0) (same p.1 q.1), refl)

pub sample_once : OneAnswer 3 sample_kinds.ps sample_kinds.r sample.Post
sample_once κs a x y u v p q =
    let number = same p.0 q.0 in
    let value = sample_in a.0 a.1.0.now a.1.1.0.now a.1.1.1.0.now a.1.1.1.1.0 a.1.1.1.1.1.0 in
    (one_answered _ x y number (same_by (λ (n : ℕ). when_done n value) number p.1 q.1), refl)
