-- Shapes that are cut to their places (specs/Inner.antt) change nothing of a picture: its 4 is the same, and where there is none nothing was cut.
use Prim.Native.Nat.{ℕ}
use mathlib.Core.Path.{◌≡◌, ap}
use mathlib.Core.Bool.{Bool, true, ◌&&◌}
use mathlib.Core.List.{◌∷◌}
use lib.Dec.{lit<}
use Rattle.laws.proofs.Bools.{halves}
use Rattle.laws.specs.Refusal.{lowest}
use Rattle.laws.proofs.Refusal.{first_passes, rest_passes, lowest_behind, lowest_alike}
use Rattle.plane.specs.declared.Planes.{Planes}
use Rattle.plane.specs.Plane.{good_shape}
use Rattle.colour.specs.declared.Conversion.{Conversion}
use Rattle.picture.specs.Picture.{Frame, frame_of, good_shapes, picture_tests}
use Rattle.numbers.proofs.Cut.{cut_good, cut_same}
use Rattle.picturedesk.specs.Inner.{cut_planes, cut_frame}

-- ---- the three shapes of a frame
planes_good_lem : (p : Planes) → good_shapes (cut_planes p) ≡ good_shapes p
planes_good_lem p i = cut_good p.luma i && cut_good p.cb i && cut_good p.cr i

planes_same : (p : Planes) → good_shapes p ≡ true → cut_planes p ≡ p
planes_same p g =
    let cr = halves (good_shape p.luma && good_shape p.cb) (good_shape p.cr) g in
    let cb = halves (good_shape p.luma) (good_shape p.cb) cr.0 in
    λ i. record { luma = cut_same p.luma cb.0 i; cb = cut_same p.cb cb.1 i; cr = cut_same p.cr cr.1 i }

frame_same : (f : Frame) → good_shapes f.shapes ≡ true → cut_frame f ≡ f
frame_same f g = ap (λ (p : Planes). frame_of p f.luma f.cb f.cr) (planes_same f.shapes g)

-- ---- three frames: 3 of the codes, then 4 of every shape
module _ (named : Bool) (conversion : Conversion) (p c n : Frame) (room : ℕ) where
  abbrev number : Frame → Frame → Frame → ℕ
  number previous current next = lowest ((3, named) ∷ picture_tests conversion previous current next room)

  abbrev all_good : Bool
  all_good = good_shapes p.shapes && good_shapes c.shapes && good_shapes n.shapes

  abbrev AllSame : Type 0
  AllSame = (cut_frame p ≡ p) × (cut_frame c ≡ c) × (cut_frame n ≡ n)

  all_same : all_good ≡ true → AllSame
  all_same g =
      let last = halves (good_shapes p.shapes && good_shapes c.shapes) (good_shapes n.shapes) g in
      let first = halves (good_shapes p.shapes) (good_shapes c.shapes) last.0 in
      (frame_same p first.0, frame_same c first.1, frame_same n last.1)

  pub picture_number_lem : number (cut_frame p) (cut_frame c) (cut_frame n) ≡ number p c n
  picture_number_lem =
      lowest_behind 3 named _ _
      (lowest_alike 4 _ _ (λ i. planes_good_lem p.shapes i && planes_good_lem c.shapes i && planes_good_lem n.shapes i)
      (λ g.
      let same = all_same g in
      λ i. lowest (picture_tests conversion (same.0 i) (same.1 i) (same.2 i) room)))

  pub picture_same : number p c n ≡ 0 → AllSame
  picture_same z = all_same (first_passes 4 _ _ (lit< tt) (rest_passes 3 _ _ (lit< tt) z))
