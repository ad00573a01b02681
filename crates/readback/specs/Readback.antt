-- A frame read back from a device (docs/RULES.md, "Fields and readback"; the source is weave.rs): the sizes that `readback_sizes` tells, the
-- numbers of both calls, and the three planes that `readback_copy` copies out.
use Rattle.std.specs.Prelude.{ℕ, ◌*◌, ◌/◌, ◌%◌, Bool, cond, ◌&&◌, List, [], ◌∷◌, ◌++◌, leb, eqb, length}
use Rattle.laws.specs.Lent.{Slice, Output}
use Rattle.laws.specs.Refusal.{lowest, written}
use Rattle.laws.specs.Rows.{laid, over}
use Rattle.plane.specs.declared.Shape.{Shape}
use Rattle.plane.specs.declared.Layout.TheVariants.{Luma, First, Second}
use Rattle.plane.specs.Plane.{good_shape, plane_bytes, sample_bytes, word_of, half}
use Rattle.readback.specs.declared.Readback.{Readback}
use Rattle.readback.specs.declared.Sizes.{Sizes}

-- ---- the planes that were read back

-- Codes above 8 bits stand in the high bits, as in the layouts of a biplanar frame. Two planes are luma and the shared chroma; three are luma and
-- the two chroma planes.
abbrev pub luma_shape : Readback → Shape
luma_shape r = record { width = r.width; height = r.height; depth = r.depth; stride = r.luma_pitch; layout = Luma }

abbrev pub shared : Readback → Bool
shared r = eqb r.planes 2

abbrev pub cb_shape : Readback → Shape
cb_shape r =
    record { width = half r.width; height = half r.height; depth = r.depth; stride = r.second_pitch; layout = cond (shared r) First Luma }

abbrev pub cr_shape : Readback → Shape
cr_shape r = record {
  width = half r.width;
  height = half r.height;
  depth = r.depth;
  stride = cond (shared r) r.second_pitch r.third_pitch;
  layout = cond (shared r) Second Luma;
}

-- the bytes that cr is read from: of two planes the second, of three the third
abbrev pub cr_bytes_of : {A : Type 0} → Readback → A → A → A
cr_bytes_of r second third = cond (shared r) second third

-- ---- the sizes

-- a plane's own component without padding
abbrev pub packed_bytes : Shape → ℕ
packed_bytes s = s.height * (s.width * sample_bytes s.depth)

-- the bytes that each output needs
abbrev pub sizes_of : Readback → Sizes
sizes_of r = record { luma = packed_bytes (luma_shape r); cb = packed_bytes (cb_shape r); cr = packed_bytes (cr_shape r) }

-- ---- the numbers

-- Of `readback_sizes`. 1: there is no plane, or more than three. 2: there is only luma. 4: a shape is outside the bounds. 6: a plane is shorter than its shape needs.
-- The chroma planes have no sizes of their own, so that nothing can differ (5). A plane beyond the count is not looked at.
abbrev pub sizes_tests : Readback → ℕ → ℕ → ℕ → List (ℕ × Bool)
sizes_tests r luma second third =
    (1, leb 1 r.planes && leb r.planes 3)
    ∷ (2, leb 2 r.planes)
    ∷ (4, good_shape (luma_shape r) && good_shape (cb_shape r) && good_shape (cr_shape r))
    ∷ (6, leb (plane_bytes (luma_shape r)) luma && leb (plane_bytes (cb_shape r)) second && leb (plane_bytes (cr_shape r)) (cr_bytes_of r second third))
    ∷ []

abbrev pub sizes_no : Readback → ℕ → ℕ → ℕ → ℕ
sizes_no r luma second third = lowest (sizes_tests r luma second third)

-- outputs of these lengths have room
abbrev pub outputs_hold : Sizes → ℕ → ℕ → ℕ → Bool
outputs_hold sizes luma_room cb_room cr_room = leb sizes.luma luma_room && leb sizes.cb cb_room && leb sizes.cr cr_room

-- Of `readback_copy`: the same tests, and behind them 7: an output is too short.
abbrev pub readback_tests : Readback → ℕ → ℕ → ℕ → ℕ → ℕ → ℕ → List (ℕ × Bool)
readback_tests r luma second third luma_room cb_room cr_room =
    sizes_tests r luma second third ++ ((7, outputs_hold (sizes_of r) luma_room cb_room cr_room) ∷ [])

abbrev pub readback_no : Readback → ℕ → ℕ → ℕ → ℕ → ℕ → ℕ → ℕ
readback_no r luma second third luma_room cb_room cr_room = lowest (readback_tests r luma second third luma_room cb_room cr_room)

-- the same of what a call is lent: three planes, and for the copy three outputs
abbrev pub sizes_no_of : {A B C : Type 0} → Readback → Slice A → Slice B → Slice C → ℕ
sizes_no_of r luma second third = sizes_no r (length luma.entry.now) (length second.entry.now) (length third.entry.now)

abbrev pub readback_no_of : {A B C D E F : Type 0} → Readback → Slice A → Slice B → Slice C → Output D → Output E → Output F → ℕ
readback_no_of r luma second third out_luma out_cb out_cr =
    readback_no r (length luma.entry.now) (length second.entry.now) (length third.entry.now) (length out_luma.entry.now)
    (length out_cb.entry.now) (length out_cr.entry.now)

-- ---- the copy

-- a word as a plane stores it: one byte, or two with the low byte first
abbrev pub word_bytes : ℕ → ℕ → List ℕ
word_bytes depth word = cond (leb depth 8) (word ∷ []) (word % 256 ∷ word / 256 ∷ [])

-- Readback drops padding, shifts codes above 8 bits right by 16 - depth, and separates shared chroma: the words of the plane's own component, row
-- by row.
unfoldable pub copied_row : List ℕ → Shape → ℕ → List ℕ
copied_row bytes s y = laid s.width (λ x. word_bytes s.depth (word_of bytes s x y))

unfoldable pub copied_of : List ℕ → Shape → List ℕ
copied_of bytes s = laid s.height (copied_row bytes s)

-- what an output holds after a call that gets this number
abbrev pub copied_after : ℕ → List ℕ → Shape → List ℕ → List ℕ
copied_after number bytes s out = written number (over (copied_of bytes s) out) out
