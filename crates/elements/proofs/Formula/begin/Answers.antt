-- `Formula::begin` meets its contract, for each start.
use lib.Ieee.{of_bits}
use Rattle.elements.specs.Sums.{begun}
use Rattle.elements.proofs.Formula.begin.Goals as goal

pub returns-in-Value : goal.returns-in-Value
unfolding begun
returns-in-Value c = rw c.in-Value.is

pub returns-in-Zero : goal.returns-in-Zero
unfolding begun of_bits
returns-in-Zero c = rw c.in-Zero.is

pub returns-in-OwnFirst : goal.returns-in-OwnFirst
unfolding begun of_bits
returns-in-OwnFirst c = rw c.in-OwnFirst.is c.term.ensures
