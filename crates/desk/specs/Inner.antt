-- What a private step of the exports holds: three planes whose numbers have to fit their places (crate `numbers`). No export's contract cites this file.
use Rattle.filter.specs.declared.Making.{Making}
use Rattle.numbers.specs.Inner.{cut}

abbrev pub cut_planes : Making → Making
cut_planes making = record { quality = making.quality; rows = making.rows; before = cut making.before; cur = cut making.cur; after = cut making.after }
