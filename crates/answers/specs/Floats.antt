-- Floats compared by their bits.
use Rattle.std.specs.Prelude.{ℕ, ◌*◌, Bool, not, ◌&&◌, List, leb, eqb, Float, length, get_or}
use Rattle.std.specs.Float.{nan, binary32}
use Rattle.std.specs.Float.Ieee.{is_nan, to_bits}
use Rattle.packed.specs.Packed.{number_at}
use Rattle.answers.specs.Record.{every}

-- a float has these bits; a NaN has none
unfoldable pub same_float : Float → ℕ → Bool
same_float x bits = not (is_nan x) && eqb (to_bits binary32 x) bits

-- floats, at most 4,096, have the bits that bytes hold, a number for each
unfoldable pub same_floats : List Float → List ℕ → Bool
same_floats floats bytes =
    leb (length floats) 4096 && (eqb (8 * length floats) (length bytes) && every (length floats) (λ i. same_float (get_or floats i nan) (number_at bytes i)))
