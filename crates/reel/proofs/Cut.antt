-- That a shape's numbers are cut to their places changes nothing: one that is cut is out of bounds, cut or not.
use Prim.Native.Nat.{ℕ}
use mathlib.Core.Path.{◌≡◌}
use mathlib.Core.List.{List, [], ◌∷◌}
use lib.Dec.{leb}
use Rattle.laws.specs.Refusal.{lowest, rising}
use Rattle.laws.proofs.Refusal.{all_pass}
use Rattle.field.specs.Field.{parity_named}
use Rattle.plane.specs.declared.Grid.{Grid}
use Rattle.plane.specs.declared.Shape.{Shape}
use Rattle.plane.specs.Plane.{good_shape, grid_shape}
use Rattle.numbers.specs.Inner.{cut_grid}
use Rattle.numbers.proofs.Cut.{cut_same, cut_good}
use Rattle.entry.specs.Entry.{word_at}
use Rattle.reel.specs.Reel.{shape_in, shape_tests, pictured_in}
use Rattle.reel.specs.Inner.{cut_pictured}

pub judged_cut : (u : List ℕ) → lowest ((3, leb (word_at u 8) 1) ∷ (4, good_shape (grid_shape (cut_grid (shape_in u)))) ∷ []) ≡ lowest (shape_tests u)
judged_cut u = λ i. lowest ((3, leb (word_at u 8) 1) ∷ (4, cut_good (grid_shape (shape_in u)) i) ∷ [])

abbrev grid_of : Shape → Grid
grid_of s = record { width = s.width; height = s.height; depth = s.depth; stride = s.stride }

pub uncut : (u : List ℕ) → lowest (shape_tests u) ≡ 0 → cut_pictured u ≡ pictured_in u
unfolding rising
uncut u done = λ i. record {
  shape = grid_of (cut_same (grid_shape (shape_in u)) (all_pass (shape_tests u) tt done).1.0 i);
  first = parity_named (word_at u 8);
}
