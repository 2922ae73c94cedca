-- `part` is the array number and the offset of a matrix.
use mathlib.Core.Path.{ap, ◌∙◌}
use Rattle.definitions.specs.Check.{nat}
use Rattle.records.specs.Judgement.{part_at}
use Rattle.records.proofs.Judgements.{word-is}
use Rattle.records.proofs.Record.part.Goals as goal

pub returns : goal.returns
unfolding part_at
returns c =
    let array = c.size-array.ensures ∙ ap nat (word-is c.word.result _ c.word.type_inv c.word.ensures) in
    let offset = c.size-offset.ensures ∙ ap nat (word-is c.word-2.result _ c.word-2.type_inv c.word-2.ensures) in
    λ i. record { array = array i; offset = offset i }
