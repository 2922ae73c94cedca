-- `term` meets its contract, on either side.
use Rattle.elements.specs.Sums.{term_of}
use Rattle.elements.proofs.term.Goals as goal

pub returns-then-left : goal.returns-then-left
unfolding term_of
returns-then-left c = rw c.if-left.true

pub returns-else-left : goal.returns-else-left
unfolding term_of
returns-else-left c = rw c.if-left.false
