-- `test` makes its tests in turn.
use Rattle.std.proofs.Common.{arith}
use Rattle.arguments.proofs.Signed.{word_same}
use Rattle.integer_solve.specs.Equations.{refusal}
use Rattle.integer_solve.proofs.Numbers.{order-within, lengths-fit}
use Rattle.integer_solve.proofs.test.Goals as goal

pub returns-then-bad_order : goal.returns-then-bad_order
unfolding refusal
returns-then-bad_order c = grind (arith, word_same)

pub returns-then-bad_length : goal.returns-then-bad_length
unfolding refusal
returns-then-bad_length c = grind (arith, word_same)

pub returns-then-zero_diagonal : goal.returns-then-zero_diagonal
unfolding refusal
returns-then-zero_diagonal c = grind (arith, word_same)

pub returns : goal.returns
unfolding refusal
returns c = grind (arith, word_same)

pub bad_length-requires : goal.bad_length-requires
bad_length-requires c = grind (arith, word_same, order-within)

pub zero_diagonal-requires : goal.zero_diagonal-requires
zero_diagonal-requires c = grind (arith, lengths-fit)
