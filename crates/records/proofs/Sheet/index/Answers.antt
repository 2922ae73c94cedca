-- `index` is the last word but one.
use Rattle.definitions.specs.Sheet.{index, word}
use Rattle.records.proofs.Sheet.index.Goals as goal

pub returns : goal.returns
unfolding index word
returns c = c.size_at.ensures
