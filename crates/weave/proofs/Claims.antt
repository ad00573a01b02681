-- The claims of specs/Claims.antt.
use Prim.Native.Nat.{ℕ, ◌+◌, ◌-◌, ◌*◌, ◌<◌}
use mathlib.Core.Path.{◌≡◌, sym, ap, ◌∙◌}
use mathlib.Core.List.{List}
use native.Mathlib.Omega.{arith}
use lib.ListN.{length, get_or, take, drop}
use Rattle.laws.specs.Refusal.{rising}
use Rattle.laws.proofs.Claims.{lowest_says}
use Rattle.laws.proofs.Lists.{part_at, length_laid, laid_at, laid_row, clamped_row}
use Rattle.plane.specs.declared.Grid.{Grid}
use Rattle.weave.specs.Weave.{line_bytes, woven_line, woven_plane, woven_bytes, weave_tests, line_tests}
use Rattle.weave.specs.Claims.{WeaveSays, LineSays, Matched, WovenAlternates, LineOfWoven}
use Rattle.weave.proofs.Fields.{woven_rows, same_size, rows_wide, rows_laid, even_row, odd_row}

pub weave_says : WeaveSays
unfolding rising
weave_says top bottom luma_room cb_room cr_room = lowest_says (weave_tests top bottom luma_room cb_room cr_room) tt

pub line_says : LineSays
unfolding rising
line_says t top-bytes b bottom-bytes y = lowest_says (line_tests t top-bytes b bottom-bytes y) tt

module _ (top : List ℕ) (t : Grid) (bottom : List ℕ) (b : Grid) (m : Matched top t bottom b) where
  wide : (y : ℕ) → length (woven_rows top t bottom b y) ≡ line_bytes t
  wide = rows_wide top t bottom b m

  plane_size : length (woven_plane top t bottom b) ≡ woven_bytes t
  plane_size = ap length (sym (rows_laid top t bottom b m)) ∙ length_laid (woven_rows top t bottom b) (line_bytes t) wide (t.height * 2)

  -- what stands in column i of line y
  place :
      (y i : ℕ) → y < t.height * 2 → i < line_bytes t →
      get_or (woven_plane top t bottom b) (y * line_bytes t + i) 0 ≡ get_or (woven_rows top t bottom b y) i 0
  place y i h k =
      ap (λ (l : List ℕ). get_or l (y * line_bytes t + i) 0) (sym (rows_laid top t bottom b m))
      ∙ laid_at (woven_rows top t bottom b) (line_bytes t) wide (t.height * 2) i y 0 k h

  even_place :
      (r i : ℕ) → r < t.height → i < line_bytes t → get_or (woven_plane top t bottom b) (r * 2 * line_bytes t + i) 0 ≡ get_or top (r * t.stride + i) 0
  even_place r i h k =
      place (r * 2) i (omega arith) k
      ∙ ap (λ (l : List ℕ). get_or l i 0) (sym (even_row top t bottom b m r h))
      ∙ part_at top (r * t.stride) (line_bytes t) i 0 k

  odd_place :
      (r i : ℕ) → r < t.height → i < line_bytes t →
      get_or (woven_plane top t bottom b) ((r * 2 + 1) * line_bytes t + i) 0 ≡ get_or bottom (r * b.stride + i) 0
  odd_place r i h k =
      place (r * 2 + 1) i (omega arith) k
      ∙ ap (λ (l : List ℕ). get_or l i 0) (sym (odd_row top t bottom b m r h))
      ∙ part_at bottom (r * b.stride) (line_bytes b) i 0 (rw (same_size top t bottom b m) k)

  one_line : (y : ℕ) → y < t.height * 2 → take (line_bytes t) (drop (y * line_bytes t) (woven_plane top t bottom b)) ≡ woven_line top t bottom b y
  one_line y h =
      ap (λ (l : List ℕ). take (line_bytes t) (drop (y * line_bytes t) l)) (sym (rows_laid top t bottom b m))
      ∙ laid_row (woven_rows top t bottom b) (line_bytes t) wide (t.height * 2) y h
      ∙ clamped_row (woven_line top t bottom b) (t.height * 2 - 1) y (omega arith)

pub woven_alternates : WovenAlternates
woven_alternates top t bottom b m =
    record { size = plane_size top t bottom b m; even = even_place top t bottom b m; odd = odd_place top t bottom b m }

pub line_of_woven : LineOfWoven
line_of_woven top t bottom b y m h = one_line top t bottom b m y h
