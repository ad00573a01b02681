-- What a step between an export and the crates beneath it holds: numbers that have to fit their places. No export's contract cites this file;
-- proofs/Cut.antt shows that the cut changes nothing.
use Rattle.std.specs.Prelude.{min}
use Rattle.plane.specs.declared.Shape.{Shape}
use Rattle.plane.specs.declared.Grid.{Grid}

-- A number too large for its place counts as the largest there, which is out of bounds too.
abbrev pub cut : Shape → Shape
cut s = record { width = min s.width 65535; height = min s.height 65535; depth = min s.depth 255; stride = s.stride; layout = s.layout }

abbrev pub cut_grid : Grid → Grid
cut_grid g = record { width = min g.width 65535; height = min g.height 65535; depth = min g.depth 255; stride = g.stride }
