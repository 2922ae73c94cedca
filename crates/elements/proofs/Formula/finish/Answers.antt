-- `Formula::finish` meets its contract, for each end.
use Rattle.elements.specs.Sums.{finished}
use Rattle.elements.proofs.Formula.finish.Goals as goal

pub returns-in-Sum : goal.returns-in-Sum
unfolding finished
returns-in-Sum c = rw c.in-Sum.is

pub returns-in-OwnLast : goal.returns-in-OwnLast
unfolding finished
returns-in-OwnLast c = rw c.in-OwnLast.is c.term.ensures

pub returns-in-Quotient : goal.returns-in-Quotient
unfolding finished
returns-in-Quotient c = rw c.in-Quotient.is
