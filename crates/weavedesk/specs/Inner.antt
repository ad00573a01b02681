-- What inner functions give: numbers narrowed for the crates beneath, and what a push is judged by first. Only contracts of inner functions cite
-- this file.
use Rattle.std.specs.Prelude.{ℕ, Bool, min, List, [], ◌∷◌, leb}
use Rattle.numbers.specs.Numbers.{grid_named}
use Rattle.numbers.specs.Inner.{cut_grid}
use Rattle.weave.specs.declared.Field.{Field}
use Rattle.readback.specs.declared.Readback.{Readback}
use Rattle.weave.specs.Weave.{good_field, chroma_fits}
use Rattle.weavedesk.specs.Waiting.{state_bytes}
use Rattle.weavedesk.specs.declared.FieldNumbers.{FieldNumbers}
use Rattle.weavedesk.specs.declared.ReadbackNumbers.{ReadbackNumbers}

-- A number too large for its place is taken for the largest there, which is out of bounds too; proofs/Narrowed.antt shows that no answer changes.
abbrev pub field_cut : FieldNumbers → Field
field_cut n = record { luma = cut_grid (grid_named n.luma); cb = cut_grid (grid_named n.cb); cr = cut_grid (grid_named n.cr) }

abbrev pub readback_cut : ReadbackNumbers → Readback
readback_cut n = record {
  planes = min n.planes 255;
  width = min n.width 65535;
  height = min n.height 65535;
  depth = min n.depth 255;
  luma_pitch = n.luma_pitch;
  second_pitch = n.second_pitch;
  third_pitch = n.third_pitch;
}

-- what a push is judged by before the weaver takes it: its codes, its shapes and the state's length
abbrev pub first_tests : Bool → Field → ℕ → List (ℕ × Bool)
first_tests named f state = (3, named) ∷ (4, good_field f) ∷ (5, chroma_fits f) ∷ (6, leb state_bytes state) ∷ []
