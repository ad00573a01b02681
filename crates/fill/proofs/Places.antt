-- Where the samples of a row stand, as `samples` walks them: from a place on, by one step a sample.
use mathlib.Core.Path.{◌≡◌, sym, ◌∙◌, ap}
use mathlib.Core.Bool.{Bool, cond}
use mathlib.Core.List.{List}
use Prim.Native.Nat.{ℕ, ◌+◌, ◌-◌, ◌*◌, ◌≤◌, ◌<◌, min}
use native.Mathlib.Nat.{mul_comm, mul_assoc, mul-add}
use native.Mathlib.Omega.{arith}
use borrow.Author.Tests.{le-leb, lt-leb}
use lib.Dec.{leb}
use lib.IntN.{pos}
use lib.ListN.{length}
use Rattle.plane.specs.declared.Shape.{Shape}
use Rattle.plane.specs.declared.Layout.{Layout}
use Rattle.plane.specs.Plane.{components, component, sample_bytes, start_of, shift, code_of, full_code, value_of}
use Rattle.plane.proofs.Full.{full_short}
use Rattle.plane.proofs.Places.{no_shift, component_low, in_plane}
use Rattle.fill.specs.Lines.{Lent, stored_value}

-- ---- a layout

-- by the test on their number, components stand alone or share the plane
pub alone : (layout : Layout) {n : ℕ} → n ≡ components layout → n ≤ 1 → components layout ≡ 1
alone layout e h = omega (arith, component_low layout)

pub shared : (layout : Layout) {n : ℕ} → n ≡ components layout → n ≤ 2 → 1 < n → components layout ≡ 2
shared layout e h k = omega arith

-- ---- a walk along the row: `depth`, `slide` and `full` stand for the plane's depth, shift and largest code

pub record Walk (s : Shape) (row at step depth slide full : ℕ) : Type 0 where
  pub start : at ≡ row * s.stride + sample_bytes depth * component s.layout
  pub pace : step ≡ sample_bytes depth * components s.layout
  pub deep : leb s.depth 8 ≡ leb depth 8
  pub slid : slide ≡ shift s.layout s.depth
  pub most : full ≡ full_code s.depth

-- one byte a sample, or two
module _ (s : Shape) (row : ℕ) {at k : ℕ} (a : at ≡ row * s.stride) (e : k ≡ component s.layout) where
  pub walk_bytes : {step : ℕ} → s.depth ≤ 8 → step ≡ components s.layout → Walk s row (at + k) step 8 0 255
  walk_bytes h n = record {
    start = omega arith;
    pace = omega arith;
    deep = le-leb s.depth 8 h;
    slid = sym (no_shift s.layout s.depth (lt-leb 9 s.depth (omega arith)));
    most = sym (full_short s.depth h);
  }

  pub walk_pairs :
      {step slide full : ℕ} →
      8 < s.depth → step ≡ 2 * components s.layout → slide ≡ shift s.layout s.depth → full ≡ full_code s.depth →
      Walk s row (at + 2 * k) step 16 slide full
  walk_pairs h n d f = record { start = omega arith; pace = n; deep = lt-leb s.depth 8 h; slid = d; most = f }

-- one product of the walk is the definition's
turned : (b n k x : ℕ) → b * k + b * n * x ≡ (x * n + k) * b
turned b n k x =
    let e : b * n * x ≡ b * (x * n) = mul_assoc b n x ∙ ap (λ (m : ℕ). b * m) (mul_comm n x) in
    let d : b * (x * n + k) ≡ b * (x * n) + b * k = mul-add b (x * n) k in
    let f : (x * n + k) * b ≡ b * (x * n + k) = mul_comm (x * n + k) b in
    omega (arith, e, d, f)

module _ {s : Shape} {row at step depth slide full : ℕ} (w : Walk s row at step depth slide full) where
  same_width : sample_bytes s.depth ≡ sample_bytes depth
  same_width = ap (λ (b : Bool). cond b 1 2) w.deep

  at_start : (x : ℕ) → at + step * x ≡ start_of s x row
  at_start x =
      let b = sample_bytes depth in
      let n = components s.layout in
      let k = component s.layout in
      let p : step * x ≡ b * n * x = ap (λ (m : ℕ). m * x) w.pace in
      let e : (x * n + k) * sample_bytes s.depth ≡ (x * n + k) * b = ap (λ (m : ℕ). (x * n + k) * m) same_width in
      let t = turned b n k x in
      omega (arith, p, e, t, w.start)

-- every sample of the row is lent
module _ {s : Shape} {row at step depth slide full : ℕ} (bytes : List ℕ) (lent : Lent s (length bytes)) (inside : row < s.height) (w : Walk s row at step depth slide full) where
  pub walk_within : (x : ℕ) → x < s.width → at + step * x + sample_bytes depth ≤ length bytes
  walk_within x l =
      let h = in_plane s x row l inside (length bytes) lent.whole in
      let e = same_width w in
      let p = at_start w x in
      omega (arith, h, e, p)

  -- a coordinate inside is held as it is
  inner : (x size : ℕ) → x < size → min x (size - 1) ≡ x
  inner x size l = omega arith

  pub walk_value : (x : ℕ) → x < s.width → stored_value bytes depth slide full (at + step * x) ≡ value_of bytes s (pos x) (pos row)
  unfolding value_of code_of
  walk_value x l = simp (inner x s.width l, inner row s.height inside, at_start w x, w.deep, w.slid, w.most)
