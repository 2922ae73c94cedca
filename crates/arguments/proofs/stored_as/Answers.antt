-- `stored_as` by the transposition.
use Rattle.definitions.specs.Call.{stored_as}
use Rattle.arguments.proofs.stored_as.Goals as goal

pub returns-in-No : goal.returns-in-No
unfolding stored_as
returns-in-No c = simp c.in-No.is

pub returns-in-Yes : goal.returns-in-Yes
unfolding stored_as
returns-in-Yes c = simp c.in-Yes.is
