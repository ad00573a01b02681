-- The kept frame, and blocks (docs/RULES.md, "Blocks and symbols"). Nothing here speaks of counters: a count is a sum over blocks.
use Rattle.std.specs.Prelude.{ℕ, ◌+◌, ◌-◌, ◌*◌, ◌/◌, ◌%◌, ◌^◌, min, Bool, cond, List, ltb, get_or}
use Rattle.laws.specs.Sums.{sum_over, apart}
use Rattle.laws.specs.Rows.{listed, laid}
use Rattle.plane.specs.declared.Shape.{Shape}
use Rattle.plane.specs.Plane.{code_of}

-- Luma is kept as 8 bits: codes above 8 bits go right by depth - 8, modulo 256.
unfoldable pub kept_of : List ℕ → Shape → ℕ → ℕ → ℕ
kept_of bytes s x y = code_of bytes s x y / 2 ^ (s.depth - 8) % 256

-- the whole frame, row by row, as a store keeps it; and a kept sample read back from a store
unfoldable pub kept_frame : List ℕ → Shape → List ℕ
kept_frame bytes s = laid s.height (λ y. listed s.width (λ x. kept_of bytes s x y))

abbrev pub stored_of : List ℕ → ℕ → ℕ → ℕ → ℕ
stored_of store width x y = get_or store (y * width + x) 0

-- The field of a parity has every second row of a frame, from row 0 or row 1 on.
abbrev pub rows_of : ℕ → ℕ → ℕ
rows_of height parity = (height + 1 - parity) / 2

abbrev pub field_of : (ℕ → ℕ → ℕ) → ℕ → ℕ → ℕ → ℕ
field_of frame parity x r = frame x (2 * r + parity)

-- A sample differs when the difference is over 8.
abbrev pub differs : ℕ → ℕ → Bool
differs a b = ltb 8 (apart a b)

-- 1 where a test holds, else 0
abbrev pub one_if : Bool → ℕ
one_if test = cond test 1 0

-- A block is 16 columns by 8 field rows, smaller at the edges: the columns of block b, and the rows of band k.
abbrev pub columns_in : ℕ → ℕ → ℕ
columns_in width b = min 16 (width - 16 * b)

abbrev pub rows_in : ℕ → ℕ → ℕ
rows_in rows k = min 8 (rows - 8 * k)

-- the differing samples of the block b of band k, of two fields that give a sample for a column and a field row
unfoldable pub differing : (ℕ → ℕ → ℕ) → (ℕ → ℕ → ℕ) → ℕ → ℕ → ℕ → ℕ → ℕ
differing new old width rows b k =
    sum_over (rows_in rows k) (λ r. sum_over (columns_in width b) (λ x. one_if (differs (new (16 * b + x) (8 * k + r)) (old (16 * b + x) (8 * k + r)))))

-- It is busy when 4 times its differing samples exceed its size.
unfoldable pub busy : (ℕ → ℕ → ℕ) → (ℕ → ℕ → ℕ) → ℕ → ℕ → ℕ → ℕ → Bool
busy new old width rows b k = ltb (columns_in width b * rows_in rows k) (4 * differing new old width rows b k)

-- blocks across and bands down: the sizes in blocks, rounded up
abbrev pub blocks_across : ℕ → ℕ
blocks_across width = (width + 15) / 16

abbrev pub bands_down : ℕ → ℕ
bands_down rows = (rows + 7) / 8

-- Counts are of busy blocks and all blocks.
unfoldable pub busy_of : (ℕ → ℕ → ℕ) → (ℕ → ℕ → ℕ) → ℕ → ℕ → ℕ
busy_of new old width rows = sum_over (bands_down rows) (λ k. sum_over (blocks_across width) (λ b. one_if (busy new old width rows b k)))

abbrev pub total_of : ℕ → ℕ → ℕ
total_of width rows = blocks_across width * bands_down rows

-- the busy blocks of the field of a parity of a picture, against the same parity of the frame that a store keeps
unfoldable pub busy_field : List ℕ → Shape → List ℕ → ℕ → ℕ
busy_field bytes s store parity =
    busy_of (field_of (kept_of bytes s) parity) (field_of (stored_of store s.width) parity) s.width (rows_of s.height parity)
