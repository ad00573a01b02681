use Rattle.weavedesk.proofs.Kept.{numbers_kept}
use Rattle.weavedesk.proofs.keep.Goals as goal

pub returns : goal.returns
returns c =
    numbers_kept c.args.weaver _ c.args.state.now _ _ c.requires c.numbers_of.ensures c.write_numbers.ensures.value
    c.write_numbers.ensures.bytes_after
