-- The transposition, by the letter of the code.
use Rattle.std.proofs.Common.{arith}
use Rattle.definitions.specs.Check.{trans_of}
use Rattle.arguments.proofs.Signed.{word_same}
use Rattle.arguments.proofs.trans_of.Goals as goal

pub returns-then-is : goal.returns-then-is
unfolding trans_of
returns-then-is c = grind (arith, word_same)

pub returns-else-is : goal.returns-else-is
unfolding trans_of
returns-else-is c = grind (arith, word_same)
