-- What the contracts of `readback` come to. proofs/Claims.antt proves each claim under its name in small letters.
use Rattle.std.specs.Prelude.{ℕ, ◌*◌, ◌<◌, ◌≤◌, ◌≡◌, ◌⊎◌, ◌↔◌, List, length, get_or}
use Rattle.laws.specs.Refusal.{Says}
use Rattle.laws.specs.Rows.{over}
use Rattle.plane.specs.declared.Shape.{Shape}
use Rattle.plane.specs.declared.Layout.TheVariants.{Planar}
use Rattle.plane.specs.Plane.{sample_bytes, word_of, code_of, half}
use Rattle.readback.specs.declared.Readback.{Readback}
use Rattle.readback.specs.declared.Sizes.{Sizes}
use Rattle.readback.specs.Readback.{luma_shape, cb_shape, cr_shape, cr_bytes_of, packed_bytes, sizes_of, sizes_tests, sizes_no, readback_tests, readback_no}
use Rattle.readback.specs.Readback.{copied_of, copied_after}

-- ---- the numbers: 0 exactly when no number applies, and otherwise the lowest that does, of each call's own tests

abbrev pub SizesSays : Type 0
SizesSays = (r : Readback) (luma second third : ℕ) → Says (sizes_tests r luma second third)

abbrev pub ReadbackSays : Type 0
ReadbackSays = (r : Readback) (luma second third luma_room cb_room cr_room : ℕ) → Says (readback_tests r luma second third luma_room cb_room cr_room)

-- ---- the two calls

-- an output is shorter than was told
abbrev pub Shorter : Sizes → Sizes → Type 0
Shorter told rooms = (rooms.luma < told.luma) ⊎ ((rooms.cb < told.cb) ⊎ (rooms.cr < told.cr))

-- The number of `readback_copy` is that of `readback_sizes`, except where that is 0 and an output is shorter than was told: then, and only then, it is 7.
pub record Follows (r : Readback) (luma second third luma_room cb_room cr_room : ℕ) : Type 0 where
  pub seven :
      (readback_no r luma second third luma_room cb_room cr_room ≡ 7)
      ↔ ((sizes_no r luma second third ≡ 0) × Shorter (sizes_of r) (record { luma = luma_room; cb = cb_room; cr = cr_room }))
  pub alike :
      (readback_no r luma second third luma_room cb_room cr_room ≡ 7 → ⊥)
      → readback_no r luma second third luma_room cb_room cr_room ≡ sizes_no r luma second third
  pub up_to_six : sizes_no r luma second third ≤ 6

abbrev pub CopyFollows : Type 0
CopyFollows = (r : Readback) (luma second third luma_room cb_room cr_room : ℕ) → Follows r luma second third luma_room cb_room cr_room

-- With outputs of just the lengths that were told, the copy gets 0, and they then hold the packed planes and no byte of what they held.
pub record Filled (r : Readback) (luma second third out_luma out_cb out_cr : List ℕ) : Type 0 where
  pub done : readback_no r (length luma) (length second) (length third) (length out_luma) (length out_cb) (length out_cr) ≡ 0
  pub luma_filled : copied_after 0 luma (luma_shape r) out_luma ≡ copied_of luma (luma_shape r)
  pub cb_filled : copied_after 0 second (cb_shape r) out_cb ≡ copied_of second (cb_shape r)
  pub cr_filled : copied_after 0 (cr_bytes_of r second third) (cr_shape r) out_cr ≡ copied_of (cr_bytes_of r second third) (cr_shape r)

abbrev pub JustFills : Type 0
JustFills =
    (r : Readback) (luma second third out_luma out_cb out_cr : List ℕ) → sizes_no r (length luma) (length second) (length third) ≡ 0
    → record { luma = length out_luma; cb = length out_cb; cr = length out_cr } ≡ sizes_of r
    → Filled r luma second third out_luma out_cb out_cr

-- What is told: height times width times bytes a sample, of each output's own component. No pitch and no count of planes is in it.
abbrev pub packed_sizes : ℕ → ℕ → ℕ → Sizes
packed_sizes width height depth = record {
  luma = height * (width * sample_bytes depth);
  cb = half height * (half width * sample_bytes depth);
  cr = half height * (half width * sample_bytes depth);
}

abbrev pub SizesPacked : Type 0
SizesPacked = (r : Readback) → sizes_of r ≡ packed_sizes r.width r.height r.depth

-- ---- the copy

-- how long what is copied is, of each plane
abbrev pub CopiedSize : Type 0
CopiedSize = (bytes : List ℕ) (s : Shape) → length (copied_of bytes s) ≡ packed_bytes s

-- the shape of a plane that was copied out: one component, no padding, codes in the low bits
abbrev pub copied_shape : Shape → Shape
copied_shape s = record { width = s.width; height = s.height; depth = s.depth; stride = s.width * sample_bytes s.depth; layout = Planar }

-- Every word of the plane is found in the copy at its own place, bit for bit: none is cut.
abbrev pub WordsKept : Type 0
WordsKept =
    (bytes old : List ℕ) (s : Shape) (x y : ℕ) → x < s.width → y < s.height
    → word_of (over (copied_of bytes s) old) (copied_shape s) x y ≡ word_of bytes s x y

-- Every code of the plane is found in the copy at its own place.
abbrev pub CodesKept : Type 0
CodesKept =
    (bytes old : List ℕ) (s : Shape) (x y : ℕ) → ((i : ℕ) → get_or bytes i 0 < 256) → s.depth ≤ 16 → x < s.width → y < s.height
    → code_of (over (copied_of bytes s) old) (copied_shape s) x y ≡ code_of bytes s x y
