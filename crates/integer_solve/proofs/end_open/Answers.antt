-- `end_open` by the direction.
use Rattle.integer_solve.specs.Elimination.{end_open}
use Rattle.integer_solve.proofs.end_open.Goals as goal

pub returns-then-down : goal.returns-then-down
unfolding end_open
returns-then-down c = rw c.if-down.true

pub returns-else-down : goal.returns-else-down
unfolding end_open
returns-else-down c = rw c.if-down.false
