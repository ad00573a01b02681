-- A plane as its making has it: the definitions of `Filter` over the samplers of three lent planes, and what is asked of those planes.
use Rattle.std.specs.Prelude.{ℕ, Bool, ◌&&◌, List, leb, ℤ, Float}
use Rattle.plane.specs.Plane.{value_of, good_shape, plane_bytes, agree}
use Rattle.filter.specs.declared.Making.{Making}
use Rattle.filter.specs.Filter.{Sampler, sample_of}

-- what is read of the planes before, cur and after, of these bytes
abbrev pub of_planes : {A : Type 0} → (Sampler → Sampler → Sampler → A) → Making → List ℕ → List ℕ → List ℕ → A
of_planes read making before cur after = read (value_of before making.before) (value_of cur making.cur) (value_of after making.after)

abbrev pub sample_in : Making → List ℕ → List ℕ → List ℕ → ℤ → ℤ → Float
sample_in making = of_planes (sample_of making.quality making.rows) making

-- each shape is within the bounds
abbrev pub planes_good : Making → Bool
planes_good making = good_shape making.before && good_shape making.cur && good_shape making.after

-- before and after agree with cur
abbrev pub planes_alike : Making → Bool
planes_alike making = agree making.cur making.before && agree making.cur making.after

-- each plane, of so many bytes, is as long as its shape needs
abbrev pub planes_whole : Making → ℕ → ℕ → ℕ → Bool
planes_whole making before cur after =
    leb (plane_bytes making.before) before && leb (plane_bytes making.cur) cur && leb (plane_bytes making.after) after
