-- Made by tools/calls from the exports; not to be changed by hand.
-- Nothing else would satisfy a contract of `desk`.
use mathlib.Core.Path.{refl}
use Rattle.desk.proofs.colours.desk_to_rgb.Kinds as desk_to_rgb_kinds
use Rattle.desk.proofs.colours.desk_to_rgb.Reads as desk_to_rgb
use Rattle.desk.proofs.colours.desk_quantise.Kinds as desk_quantise_kinds
use Rattle.desk.proofs.colours.desk_quantise.Reads as desk_quantise
use Rattle.desk.proofs.colours.desk_luma.Kinds as desk_luma_kinds
use Rattle.desk.proofs.colours.desk_luma.Reads as desk_luma
use Rattle.desk.proofs.combs.desk_comb.Kinds as desk_comb_kinds
use Rattle.desk.proofs.combs.desk_comb.Reads as desk_comb
use Rattle.desk.proofs.combs.desk_comb_rgba.Kinds as desk_comb_rgba_kinds
use Rattle.desk.proofs.combs.desk_comb_rgba.Reads as desk_comb_rgba
use Rattle.desk.proofs.fields.desk_first_field.Kinds as desk_first_field_kinds
use Rattle.desk.proofs.fields.desk_first_field.Reads as desk_first_field
use Rattle.desk.proofs.filters.desk_edge.Kinds as desk_edge_kinds
use Rattle.desk.proofs.filters.desk_edge.Reads as desk_edge
use Rattle.desk.proofs.filters.desk_sample.Kinds as desk_sample_kinds
use Rattle.desk.proofs.filters.desk_sample.Reads as desk_sample
use Rattle.desk.proofs.filters.desk_plane.Kinds as desk_plane_kinds
use Rattle.desk.proofs.filters.desk_plane.Reads as desk_plane
use Rattle.desk.proofs.planes.desk_code.Kinds as desk_code_kinds
use Rattle.desk.proofs.planes.desk_code.Reads as desk_code
use Rattle.desk.proofs.planes.desk_at.Kinds as desk_at_kinds
use Rattle.desk.proofs.planes.desk_at.Reads as desk_at
use Rattle.unique.specs.Unique.{OneAnswer}
use Rattle.unique.proofs.Law.{same, ◌and◌, once}

pub desk_to_rgb_once : OneAnswer 3 desk_to_rgb_kinds.ps desk_to_rgb_kinds.r desk_to_rgb.Post
desk_to_rgb_once =
    once 3 desk_to_rgb_kinds.ps desk_to_rgb_kinds.r desk_to_rgb.Post (λ κs a x y s t p q. same p.0 q.0)
    (λ κs a x u v p q. refl and refl and refl and refl and same p.1.0 q.1.0 and same p.1.1.0 q.1.1.0 and same p.1.1.1 q.1.1.1 and refl)

pub desk_quantise_once : OneAnswer 0 desk_quantise_kinds.ps desk_quantise_kinds.r desk_quantise.Post
desk_quantise_once κs a x y u v p q = (same p q, refl)

pub desk_luma_once : OneAnswer 3 desk_luma_kinds.ps desk_luma_kinds.r desk_luma.Post
desk_luma_once =
    once 3 desk_luma_kinds.ps desk_luma_kinds.r desk_luma.Post (λ κs a x y s t p q. same p.0 q.0)
    (λ κs a x u v p q. refl and same p.1.0 q.1.0 and same p.1.1.0 q.1.1.0 and same p.1.1.1 q.1.1.1 and refl)

pub desk_comb_once : OneAnswer 2 desk_comb_kinds.ps desk_comb_kinds.r desk_comb.Post
desk_comb_once =
    once 2 desk_comb_kinds.ps desk_comb_kinds.r desk_comb.Post (λ κs a x y s t p q. same p.0 q.0)
    (λ κs a x u v p q. refl and refl and refl and refl and refl and same p.1 q.1 and refl)

pub desk_comb_rgba_once : OneAnswer 2 desk_comb_rgba_kinds.ps desk_comb_rgba_kinds.r desk_comb_rgba.Post
desk_comb_rgba_once =
    once 2 desk_comb_rgba_kinds.ps desk_comb_rgba_kinds.r desk_comb_rgba.Post (λ κs a x y s t p q. same p.0 q.0)
    (λ κs a x u v p q. refl and refl and refl and same p.1 q.1 and refl)

pub desk_first_field_once : OneAnswer 1 desk_first_field_kinds.ps desk_first_field_kinds.r desk_first_field.Post
desk_first_field_once =
    once 1 desk_first_field_kinds.ps desk_first_field_kinds.r desk_first_field.Post (λ κs a x y s t p q. same p.0 q.0)
    (λ κs a x u v p q. refl and refl and same p.1 q.1 and refl)

pub desk_edge_once : OneAnswer 2 desk_edge_kinds.ps desk_edge_kinds.r desk_edge.Post
desk_edge_once =
    once 2 desk_edge_kinds.ps desk_edge_kinds.r desk_edge.Post (λ κs a x y s t p q. same p.0 q.0)
    (λ κs a x u v p q. refl and refl and refl and refl and same p.1 q.1 and refl)

pub desk_sample_once : OneAnswer 4 desk_sample_kinds.ps desk_sample_kinds.r desk_sample.Post
desk_sample_once =
    once 4 desk_sample_kinds.ps desk_sample_kinds.r desk_sample.Post (λ κs a x y s t p q. same p.0 q.0)
    (λ κs a x u v p q. refl and refl and refl and refl and refl and refl and refl and refl and refl and refl and refl and same p.1 q.1 and refl)

pub desk_plane_once : OneAnswer 4 desk_plane_kinds.ps desk_plane_kinds.r desk_plane.Post
desk_plane_once =
    once 4 desk_plane_kinds.ps desk_plane_kinds.r desk_plane.Post (λ κs a x y s t p q. same p.0 q.0)
    (λ κs a x u v p q. refl and refl and refl and refl and refl and refl and refl and refl and same p.1 q.1 and refl)

pub desk_code_once : OneAnswer 2 desk_code_kinds.ps desk_code_kinds.r desk_code.Post
desk_code_once =
    once 2 desk_code_kinds.ps desk_code_kinds.r desk_code.Post (λ κs a x y s t p q. same p.0 q.0)
    (λ κs a x u v p q. refl and refl and refl and refl and same p.1 q.1 and refl)

pub desk_at_once : OneAnswer 2 desk_at_kinds.ps desk_at_kinds.r desk_at.Post
desk_at_once =
    once 2 desk_at_kinds.ps desk_at_kinds.r desk_at.Post (λ κs a x y s t p q. same p.0 q.0)
    (λ κs a x u v p q. refl and refl and refl and refl and same p.1 q.1 and refl)
