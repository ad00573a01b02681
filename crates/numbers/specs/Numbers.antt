-- What the host's numbers name, as it gives them, however large (docs/RULES.md, "Planes", "What the desk gets back").
use Rattle.std.specs.Prelude.{ℕ, cond, eqb}
use Rattle.plane.specs.declared.Shape.{Shape}
use Rattle.plane.specs.declared.Grid.{Grid}
use Rattle.plane.specs.declared.Layout.{Layout}
use Rattle.plane.specs.declared.Layout.TheVariants.{Planar, Luma, First, Second}
use Rattle.numbers.specs.declared.PlaneNumbers.{PlaneNumbers}
use Rattle.numbers.specs.declared.GridNumbers.{GridNumbers}

-- 0 planar, 1 the luma of a biplanar frame, 2 and 3 the first and the second of two shared components; another code names nothing
abbrev pub layout_named : ℕ → Layout
layout_named code = cond (eqb code 0) Planar (cond (eqb code 1) Luma (cond (eqb code 2) First Second))

abbrev pub shape_named : PlaneNumbers → Shape
shape_named n = record { width = n.width; height = n.height; depth = n.depth; stride = n.stride; layout = layout_named n.layout }

abbrev pub grid_named : GridNumbers → Grid
grid_named n = record { width = n.width; height = n.height; depth = n.depth; stride = n.stride }
