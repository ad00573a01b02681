use mathlib.Core.List.{List}
use Prim.Native.Nat.{ℕ, ◌/◌}
use lib.ListN.{length, get_or}
use lib.Ieee.{Float, nan}
use Rattle.laws.proofs.Lists.{Stacked}
use Rattle.colour.specs.declared.Conversion.{Conversion}
use Rattle.colour.specs.Colour.{converted_of}
use Rattle.picture.specs.Picture.{pixel_of}
use Rattle.picture.proofs.paint_row.Given as goal

abbrev pub pixel : Conversion → List Float → List Float → List Float → ℕ → List ℕ
pixel conversion luma cb cr x = pixel_of (converted_of conversion (get_or luma x nan) (get_or cb (x / 2) nan) (get_or cr (x / 2) nan))

abbrev pub invariant-loop-x : goal.invariant-loop-x
invariant-loop-x l = Stacked (pixel l.conversion l.luma l.cb l.cr) 4 (length l.luma) l.initial.out l.out l.x
