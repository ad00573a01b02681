-- A store that begins with the kept frame of a picture shows that picture: blocks are counted against it as against the frame alone, since
-- no block reaches past the frame.
use Prim.Native.Nat.{ℕ, suc, ◌+◌, ◌*◌, ◌<◌, ◌≤◌}
use native.Mathlib.Nat.{suc-mul, mul-le-mul_right}
use native.Mathlib.Omega.{arith}
use mathlib.Core.Path.{◌≡◌, refl, ◌∙◌}
use mathlib.Core.Logic.{⊎_elim}
use mathlib.Core.Bool.{true, not}
use mathlib.Core.List.{List, [], ◌++◌}
use lib.Dec.{eqb}
use lib.ListN.{length, get_or-append}
use borrow.Author.Tests.{eqb-true}
use Rattle.laws.specs.Rows.{listed}
use Rattle.laws.proofs.Lists.{length_listed, length_laid}
use Rattle.field.specs.declared.Parity.{Parity}
use Rattle.field.specs.declared.Parity.TheVariants as parity
use Rattle.plane.specs.declared.Shape.{Shape}
use Rattle.block.specs.Block.{kept_of, kept_frame, stored_of, rows_of, field_of, busy_field}
use Rattle.block.proofs.Claims.{samples_settle}
use Rattle.laws.proofs.Bools.{known, and_left, and_right}
use Rattle.telecine.specs.declared.Kept.{Kept}
use Rattle.telecine.specs.Detector.{nothing_kept, same_parity, alike, symbol_against, seen_picture, kept_as, kept_bytes}
use Rattle.telecine.specs.History.{Last, none, last, seen_against}

-- ---- frames
pub kept_long : (bytes : List ℕ) (s : Shape) → length (kept_frame bytes s) ≡ s.height * s.width
unfolding kept_frame
kept_long bytes s = length_laid (λ y. listed s.width (λ x. kept_of bytes s x y)) s.width (λ y. length_listed s.width (λ x. kept_of bytes s x y)) s.height

module _ (frame rest plane : List ℕ) (s : Shape) (long : length frame ≡ s.height * s.width) where
  inner : (x y : ℕ) → x < s.width → y < s.height → y * s.width + x < length frame
  inner x y h k = rw long (omega (arith, suc-mul y s.width, mul-le-mul_right {m = suc y} {n = s.height} s.width k))

  busy_in_front : (q : ℕ) → q ≤ 1 → busy_field plane s (frame ++ rest) q ≡ busy_field plane s frame q
  unfolding busy_field
  busy_in_front q h =
      samples_settle (field_of (kept_of plane s) q) (field_of (stored_of (frame ++ rest) s.width) q) (field_of (kept_of plane s) q)
      (field_of (stored_of frame s.width) q) s.width (rows_of s.height q)
      (λ x r lx lr. refl)
      (λ x r lx lr. get_or-append frame rest 0 ((2 * r + q) * s.width + x) (inner x (2 * r + q) lx (omega arith)))

  symbol_in_front : (first : Parity) → symbol_against (frame ++ rest) plane s first ≡ symbol_against frame plane s first
  unfolding symbol_against
  symbol_in_front parity.Top = rw (busy_in_front 0 (omega arith), busy_in_front 1 (omega arith))
  symbol_in_front parity.Bottom = rw (busy_in_front 0 (omega arith), busy_in_front 1 (omega arith))

-- ---- what is seen

-- the kept frame's shape, and what the store begins with, by the last picture
abbrev pub kept_by : Last → Kept
kept_by none = nothing_kept
kept_by (last plane s first) = kept_as s first

abbrev pub frame_by : Last → List ℕ
frame_by none = []
frame_by (last plane s first) = kept_frame plane s

pub kept_within : (l : Last) → kept_bytes (kept_by l) ≤ length (frame_by l)
kept_within none = omega arith
kept_within (last plane s first) = omega (arith, kept_long plane s)

-- frames that are alike have one size
module _ (t : Shape) (led : Parity) (s : Shape) (first : Parity) (h : alike t.width t.height led s first ≡ true) where
  same_size : t.height * t.width ≡ s.height * s.width
  same_size =
      let sizes = and_left _ (same_parity led first) (and_left _ (not (eqb s.height 1)) h) in
      let width : t.width ≡ s.width = eqb-true _ _ (and_left _ _ sizes) in
      let height : t.height ≡ s.height = eqb-true _ _ (and_right (eqb t.width s.width) _ sizes) in
      rw (width, height)

pub same_seen : (l : Last) (rest plane : List ℕ) (s : Shape) (first : Parity)
    → seen_picture (kept_by l) (frame_by l ++ rest) plane s first ≡ seen_against l plane s first
same_seen none rest plane s first = refl
same_seen (last old t led) rest plane s first =
    ⊎_elim
    (λ h. rw (symbol_in_front (kept_frame old t) rest plane s (kept_long old t ∙ same_size t led s first h) first))
    (λ h. rw h)
    (known (alike t.width t.height led s first))
