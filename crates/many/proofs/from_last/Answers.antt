-- `from_last` is the difference, or 0 where there is none.
use Rattle.std.proofs.Common.{arith}
use Rattle.definitions.specs.Many.{from_last}
use Rattle.arguments.proofs.Signed.{word_same}
use Rattle.many.proofs.from_last.Goals as goal

pub returns : goal.returns
unfolding from_last
returns c = grind (arith, word_same)
