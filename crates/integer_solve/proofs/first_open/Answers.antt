-- `first_open` by the direction.
use Rattle.integer_solve.specs.Elimination.{first_open}
use Rattle.integer_solve.proofs.first_open.Goals as goal

pub returns-then-down : goal.returns-then-down
unfolding first_open
returns-then-down c = rw c.if-down.true

pub returns-else-down : goal.returns-else-down
unfolding first_open
returns-else-down c = rw c.if-down.false
