-- The side, by the letter of the code.
use Rattle.std.proofs.Common.{arith}
use Rattle.definitions.specs.Check.{side_of}
use Rattle.arguments.proofs.Signed.{word_same}
use Rattle.arguments.proofs.side_of.Goals as goal

pub returns-then-is : goal.returns-then-is
unfolding side_of
returns-then-is c = grind (arith, word_same)

pub returns-else-is : goal.returns-else-is
unfolding side_of
returns-else-is c = grind (arith, word_same)
