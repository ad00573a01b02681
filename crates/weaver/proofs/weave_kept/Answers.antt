use mathlib.Core.Path.{ap, ◌∙◌}
use Rattle.weaver.proofs.Judged.{luma_size, chroma_size, shape_of, same_kept, same_weavable}
use Rattle.weaver.proofs.weave_kept.Goals as goal

pub weave_pair-requires : goal.weave_pair-requires
weave_pair-requires c =
    same_weavable
    (same_kept c.args.kept c.args.store.now _ _ _ (c.shape.ensures ∙ ap shape_of c.size-size.ensures)
    (c.plane_bytes-a.ensures.0 ∙ ap luma_size c.size-size.ensures) (c.chroma_bytes-b.ensures.0 ∙ ap chroma_size c.size-size.ensures))
    c.requires.weavable_into
