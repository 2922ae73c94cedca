-- `square` has the order of A, by the side.
use Rattle.definitions.specs.Call.{by_side, order}
use Rattle.arguments.proofs.square.Goals as goal

pub returns-in-Left : goal.returns-in-Left
unfolding order by_side
returns-in-Left c = simp c.in-Left.is

pub returns-in-Right : goal.returns-in-Right
unfolding order by_side
returns-in-Right c = simp c.in-Right.is
