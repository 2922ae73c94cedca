-- `number` by the answer.
use native.Mathlib.Omega.{arith}
use mir.Syntax.{w32}
use mir.ValLaws.{to_z_pos}
use Rattle.integer_solve.specs.Equations.{number}
use Rattle.integer_solve.proofs.number.Goals as goal

pub returns-in-Refused : goal.returns-in-Refused
unfolding number
returns-in-Refused c = rw c.in-Refused.is (to_z_pos w32 c.in-Refused.k (omega arith))

pub returns-in-Solved : goal.returns-in-Solved
unfolding number
returns-in-Solved c = simp c.in-Solved.is

pub returns-in-None : goal.returns-in-None
unfolding number
returns-in-None c = simp c.in-None.is
