-- `check` answers as the definitions do.
use Rattle.std.proofs.Common.{arith}
use Rattle.definitions.specs.Check.{checked}
use Rattle.arguments.proofs.Signed.{word_same}
use Rattle.arguments.proofs.check.Goals as goal

pub returns-in-Err : goal.returns-in-Err
unfolding checked
returns-in-Err c = grind (arith, word_same, c.in-Err.ensures)

pub returns-then-is_idle : goal.returns-then-is_idle
unfolding checked
returns-then-is_idle c = grind (arith, word_same, c.in_default.ensures)

pub returns : goal.returns
unfolding checked
returns c = grind (arith, word_same, c.in_default.ensures)
