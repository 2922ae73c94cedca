-- `bad_width` tests that a width is not 0 to 64.
use Rattle.std.proofs.Common.{arith}
use Rattle.definitions.specs.Check.{bad_width}
use Rattle.arguments.proofs.Signed.{word_same}
use Rattle.arguments.proofs.bad_width.Goals as goal

pub returns : goal.returns
unfolding bad_width
returns c = grind (arith, word_same)
