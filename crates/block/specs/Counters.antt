-- How the private functions count: each block of a band has a counter, to which row after row is added. No public contract cites this file.
use Rattle.std.specs.Prelude.{ℕ, ◌+◌, ◌*◌, ◌≤◌, ◌<◌, ◌≡◌, List, ltb, length, get_or}
use Rattle.laws.specs.Sums.{sum_over}
use Rattle.plane.specs.declared.Shape.{Shape}
use Rattle.block.specs.Block.{kept_of, stored_of, one_if, differs, columns_in, blocks_across}

-- the differing samples of two rows in block b
abbrev pub differing_in : (ℕ → ℕ) → (ℕ → ℕ) → ℕ → ℕ → ℕ
differing_in new old width b = sum_over (columns_in width b) (λ x. one_if (differs (new (16 * b + x)) (old (16 * b + x))))

-- those of rows that stand in two lists
abbrev pub differing_lists : List ℕ → List ℕ → ℕ → ℕ
differing_lists new old = differing_in (λ x. get_or new x 0) (λ x. get_or old x 0) (length new)

-- those of row y of a picture and of the kept frame
abbrev pub differing_row : List ℕ → Shape → List ℕ → ℕ → ℕ → ℕ
differing_row bytes s store y = differing_in (λ x. kept_of bytes s x y) (λ x. stored_of store s.width x y) s.width

-- those of row i of the band whose top is row `top` of the field that starts at row `first`
abbrev pub band_row : List ℕ → Shape → List ℕ → ℕ → ℕ → ℕ → ℕ → ℕ
band_row bytes s store first top i = differing_row bytes s store (2 * (top + i) + first)

-- the busy blocks of a band of `rows` rows, whose block b has `count b` differing samples
abbrev pub busy_by : ℕ → ℕ → (ℕ → ℕ) → ℕ
busy_by width rows count = sum_over (blocks_across width) (λ b. one_if (ltb (columns_in width b * rows) (4 * count b)))

-- 512 counters, enough for 8,192 columns, each at most the samples of a block
pub record Counters (counters : List ℕ) (width : ℕ) : Type 0 where
  pub many : length counters ≡ 512
  pub low : (b : ℕ) → get_or counters b 0 ≤ 128
  pub narrow : width ≤ 8192

-- each of the first n counters has grown by `more`, the others stand
pub record Added (old new : List ℕ) (more : ℕ → ℕ) (n : ℕ) : Type 0 where
  pub grown : (b : ℕ) → b < n → get_or new b 0 ≡ get_or old b 0 + more b
  pub same : (b : ℕ) → n ≤ b → get_or new b 0 ≡ get_or old b 0
