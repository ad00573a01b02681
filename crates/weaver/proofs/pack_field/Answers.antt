use mathlib.Core.Path.{ap, ◌∙◌}
use Rattle.weaver.proofs.Packed.{packs}
use Rattle.weaver.proofs.Judged.{sound, luma_size, chroma_size}
use Rattle.weaver.proofs.pack_field.Goals as goal

pub returns : goal.returns
returns c =
    packs _ (sound _ c.requires.good c.requires.half_sized c.requires.long) _ _ _ _ (c.plane_bytes-a.ensures.0 ∙ ap luma_size c.of-size.ensures)
    (c.chroma_bytes-b.ensures.0 ∙ ap chroma_size c.of-size.ensures) c.pack_part.ensures c.pack_part-2.ensures c.pack_part-3.ensures
