use Rattle.fill.proofs.Columns.{column}
use Rattle.fill.proofs.Column.at.Goals as goal

pub returns : goal.returns
returns c = λ v from count y h l. column h _ _ l c.requires.3
