-- `least` finds the least index of some unknowns.
use Rattle.trsm_diagonal.specs.Solve.{first}
use mathlib.Core.Path.{refl}
use native.Mathlib.Omega.{arith}
use Rattle.trsm_diagonal.proofs.least.Goals as goal

pub returns-then-down : goal.returns-then-down
unfolding first
returns-then-down c = (rw c.if-down.true refl, omega arith)

pub returns-else-down : goal.returns-else-down
unfolding first
returns-else-down c = (rw c.if-down.false refl, omega arith)
