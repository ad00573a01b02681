-- A frame read back, at the door: what the host lends to `desk_readback_sizes` and to `desk_readback_copy`, what each gives and leaves, and what the
-- host means. Claims join the two calls by these definitions, and proofs/Door.antt shows that the contracts come to them.
use Rattle.std.specs.Prelude.{ℕ, cond, List, eqb, length}
use Rattle.laws.specs.Refusal.{written}
use Rattle.laws.specs.Rows.{over}
use Rattle.plane.specs.declared.Shape.{Shape}
use Rattle.plane.specs.declared.Layout.{Layout}
use Rattle.plane.specs.declared.Layout.TheVariants.{Luma, First, Second}
use Rattle.plane.specs.Plane.{half}
use Rattle.readback.specs.declared.Sizes.{Sizes}
use Rattle.readback.specs.Readback.{luma_shape, cb_shape, cr_shape, cr_bytes_of, sizes_of, sizes_no, readback_no, copied_of, copied_after}
use Rattle.weavedesk.specs.declared.ReadbackNumbers.{ReadbackNumbers}
use Rattle.weavedesk.specs.Woven.{readback_named}

-- ---- what is lent

-- to both calls: numbers, and the bytes of the planes
pub record Frame : Type 0 where
  pub about : ReadbackNumbers
  pub luma : List ℕ
  pub second : List ℕ
  pub third : List ℕ

-- to the copy; the call before it is lent three places, read as `Sizes`
pub record Outputs : Type 0 where
  pub luma : List ℕ
  pub cb : List ℕ
  pub cr : List ℕ

abbrev pub lengths : Outputs → Sizes
lengths outs = record { luma = length outs.luma; cb = length outs.cb; cr = length outs.cr }

-- ---- `desk_readback_sizes`

abbrev pub ask_no : Frame → ℕ
ask_no f = sizes_no (readback_named f.about) (length f.luma) (length f.second) (length f.third)

-- what the places hold after a call that gets this number
abbrev pub places_after : ℕ → Frame → Sizes → Sizes
places_after number f places =
    let sizes = sizes_of (readback_named f.about) in record {
      luma = written number sizes.luma places.luma;
      cb = written number sizes.cb places.cb;
      cr = written number sizes.cr places.cr;
    }

-- ---- `desk_readback_copy`

abbrev pub copy_no : Frame → Outputs → ℕ
copy_no f outs =
    readback_no (readback_named f.about) (length f.luma) (length f.second) (length f.third) (length outs.luma) (length outs.cb)
    (length outs.cr)

-- what the outputs hold after a call that gets this number
abbrev pub outputs_after : ℕ → Frame → Outputs → Outputs
outputs_after number f outs =
    let r = readback_named f.about in record {
      luma = copied_after number f.luma (luma_shape r) outs.luma;
      cb = copied_after number f.second (cb_shape r) outs.cb;
      cr = copied_after number (cr_bytes_of r f.second f.third) (cr_shape r) outs.cr;
    }

-- ---- what the host means: shapes and planes are spelled out here, and only what is copied of a shape, `copied_of`, is the contracts' own

-- Two planes are luma, and cb and cr sample by sample; three are luma, cb and cr. A row starts its pitch behind the one before it.
abbrev pub luma_meant : ReadbackNumbers → Shape
luma_meant n = record { width = n.width; height = n.height; depth = n.depth; stride = n.luma_pitch; layout = Luma }

abbrev pub chroma_meant : ReadbackNumbers → ℕ → Layout → Shape
chroma_meant n pitch layout = record { width = half n.width; height = half n.height; depth = n.depth; stride = pitch; layout = layout }

-- the three planes, packed
abbrev pub planes_meant : Frame → Outputs
planes_meant f =
    let n = f.about in
    let two = eqb n.planes 2 in record {
      luma = copied_of f.luma (luma_meant n);
      cb = copied_of f.second (chroma_meant n n.second_pitch (cond two First Luma));
      cr = cond two (copied_of f.second (chroma_meant n n.second_pitch Second)) (copied_of f.third (chroma_meant n n.third_pitch Luma));
    }

-- each at the front of its output
abbrev pub at_front : Outputs → Outputs → Outputs
at_front planes outs = record { luma = over planes.luma outs.luma; cb = over planes.cb outs.cb; cr = over planes.cr outs.cr }
