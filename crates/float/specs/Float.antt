-- Rust's methods on `f32` that are functions here (docs/RULES.md, "Forms that must change"), at every float, a NaN and both zeros among
-- them. The cut to a byte, `as u8`, is the library's own `to_unsigned 8`.
use Rattle.std.specs.Prelude.{false, cond, ◌||◌, Float}
use Rattle.std.specs.Float.{nan, inf, fin, binary32}
use Rattle.std.specs.Float.Ieee.{lt, is_nan, of_bits}

abbrev pub zero_f : Float
zero_f = of_bits binary32 0

abbrev pub one_f : Float
one_f = of_bits binary32 0x3f80_0000

-- The float without its sign: +0 for both zeros, a NaN for a NaN.
unfoldable pub abs_of : Float → Float
abs_of nan = nan
abs_of (inf s) = inf false
abs_of (fin s m e) = fin false m e

-- The lesser, and of a NaN and another the other, as Rust has it. Of two equal ones, as both zeros are, the first: Rust leaves that open.
unfoldable pub min_of : Float → Float → Float
min_of a b = cond (lt b a || is_nan a) b a

unfoldable pub max_of : Float → Float → Float
max_of a b = cond (lt a b || is_nan a) b a

-- `clamp` alters only a value strictly outside: so neither a NaN nor a zero of either sign at an end.
unfoldable pub clamp_of : Float → Float → Float → Float
clamp_of x low high = cond (lt x low) low (cond (lt high x) high x)
