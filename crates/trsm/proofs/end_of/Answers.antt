-- `end_of` meets its contract, by cases on the diagonal.
use Rattle.definitions.specs.Element.{divided}
use Rattle.elements.specs.Sums.{finished}
use Rattle.trsm_diagonal.proofs.BlockLaws.{diagonal-entry}
use Rattle.trsm.proofs.end_of.Goals as goal

pub returns-in-Unit : goal.returns-in-Unit
unfolding divided finished
returns-in-Unit c = λ left alpha e y. rw c.in-Unit.is

pub returns-in-Nonunit : goal.returns-in-Nonunit
unfolding divided finished
returns-in-Nonunit c = λ left alpha e y. rw (c.in-Nonunit.is, diagonal-entry c.args.by.a.t c.args.by.a.cells.now c.args.by.a.ld c.args.i)
