use Rattle.listing.proofs.Texts.{word_then}
use Rattle.listing.proofs.Page.add_part.Goals as goal

pub returns : goal.returns
returns c = word_then c.requires c.add.ensures c.add_number.ensures
