-- `width` is that of the record's strips.
use mathlib.Core.Path.{ap, ◌∙◌}
use Rattle.definitions.specs.Check.{width}
use Rattle.definitions.specs.Sheet.{width_of}
use Rattle.records.proofs.Judgements.{word-is}
use Rattle.records.proofs.Record.width.Goals as goal

pub returns : goal.returns
unfolding width_of
returns c = c.width.ensures ∙ ap width (word-is c.word.result _ c.word.type_inv c.word.ensures)
