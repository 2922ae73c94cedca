-- `count` is the last word.
use Rattle.definitions.specs.Sheet.{count, word, records}
use Rattle.records.proofs.Sheet.count.Goals as goal

pub returns : goal.returns
unfolding count word records
returns c = c.size_at.ensures
