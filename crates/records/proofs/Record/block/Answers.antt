-- `block` is the size of the record's blocks.
use mathlib.Core.Path.{ap, ◌∙◌}
use Rattle.definitions.specs.Check.{width}
use Rattle.records.proofs.Judgements.{word-is}
use Rattle.records.proofs.Record.block.Goals as goal

pub returns : goal.returns
returns c = c.width.ensures ∙ ap width (word-is c.word.result _ c.word.type_inv c.word.ensures)
