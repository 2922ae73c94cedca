-- `bad_length` tests three lengths.
use native.Mathlib.Nat.{mul-le-mul}
use native.Mathlib.Omega.{arith}
use borrow.Author.Rules.{rules}
use Rattle.integer_solve.specs.Equations.{bad_length}
use Rattle.integer_solve.proofs.bad_length.Goals as goal

pub overflow_mul-result : goal.overflow_mul-result
unfolding bad_length
overflow_mul-result c = omega (arith, mul-le-mul c.requires c.requires)

pub returns : goal.returns
unfolding bad_length
returns c = search rules
