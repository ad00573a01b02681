-- Comb (docs/RULES.md, "Colour and comb"): how far twice a code is from the sum of those above and below it, over all inner rows, of codes
-- that are not shifted, and of an RGBA picture of green. It is defined over a code function of column and row, so it holds of a frame that
-- is nowhere in memory too.
use Rattle.std.specs.Prelude.{ℕ, ◌+◌, ◌-◌, ◌*◌, List, get_or}
use Rattle.laws.specs.Sums.{sum_over, apart}
use Rattle.plane.specs.Plane.{unshifted, code_of}

-- |2 * here - up - down| in column x, where `here` is row y + 1
abbrev pub bend_of : (ℕ → ℕ → ℕ) → ℕ → ℕ → ℕ
bend_of code x y = apart (2 * code x (y + 1)) (code x y + code x (y + 2))

-- over every column and every inner row: one that has a row above it and one below
unfoldable pub comb_of : (ℕ → ℕ → ℕ) → ℕ → ℕ → ℕ
comb_of code width height = sum_over (height - 2) (λ y. sum_over width (λ x. bend_of code x y))

unfoldable pub plane_comb : List ℕ → ℕ → ℕ → ℕ → ℕ → ℕ
plane_comb bytes width height depth stride = comb_of (code_of bytes (unshifted width height depth stride)) width height

-- green, of a picture of four bytes a pixel whose rows are width * 4 bytes long
abbrev pub green_at : List ℕ → ℕ → ℕ → ℕ → ℕ
green_at rgba width x y = get_or rgba ((y * width + x) * 4 + 1) 0

unfoldable pub rgba_comb : List ℕ → ℕ → ℕ → ℕ
rgba_comb rgba width height = comb_of (green_at rgba width) width height
