-- What a shape within the bounds has, number by number.
use Prim.Native.Nat.{◌≤◌}
use mathlib.Core.Path.{◌≡◌}
use mathlib.Core.Bool.{Bool, true, ◌&&◌}
use borrow.Author.Tests.{leb-true}
use lib.Dec.{leb}
use Rattle.laws.proofs.Bools.{halves}
use Rattle.plane.specs.declared.Shape.{Shape}
use Rattle.plane.specs.Plane.{row_bytes, good_shape}

pub record Within (s : Shape) : Type 0 where
  pub width_least : 1 ≤ s.width
  pub width_most : s.width ≤ 8192
  pub height_least : 1 ≤ s.height
  pub height_most : s.height ≤ 4352
  pub depth_least : 8 ≤ s.depth
  pub depth_most : s.depth ≤ 16
  pub stride_most : s.stride ≤ 65536
  pub row_fits : row_bytes s ≤ s.stride

-- each of eight tests that hold together
module _ (a b c d e f g h : Bool) where
  pub each_of_eight :
      (a && b && c && d && e && f && g && h) ≡ true →
      (a ≡ true) × (b ≡ true) × (c ≡ true) × (d ≡ true) × (e ≡ true) × (f ≡ true) × (g ≡ true) × (h ≡ true)
  each_of_eight p =
      let p7 = halves (a && b && c && d && e && f && g) h p in
      let p6 = halves (a && b && c && d && e && f) g p7.0 in
      let p5 = halves (a && b && c && d && e) f p6.0 in
      let p4 = halves (a && b && c && d) e p5.0 in
      let p3 = halves (a && b && c) d p4.0 in
      let p2 = halves (a && b) c p3.0 in
      let p1 = halves a b p2.0 in
      (p1.0, p1.1, p2.1, p3.1, p4.1, p5.1, p6.1, p7.1)

pub good_within : (s : Shape) → good_shape s ≡ true → Within s
unfolding good_shape
good_within s h =
    let t =
    each_of_eight (leb 1 s.width) (leb s.width 8192) (leb 1 s.height) (leb s.height 4352) (leb 8 s.depth) (leb s.depth 16)
    (leb s.stride 65536) (leb (row_bytes s) s.stride) h
    in
    record {
      width_least = leb-true 1 s.width t.0;
      width_most = leb-true s.width 8192 t.1;
      height_least = leb-true 1 s.height t.2;
      height_most = leb-true s.height 4352 t.3;
      depth_least = leb-true 8 s.depth t.4;
      depth_most = leb-true s.depth 16 t.5;
      stride_most = leb-true s.stride 65536 t.6;
      row_fits = leb-true (row_bytes s) s.stride t.7;
    }
