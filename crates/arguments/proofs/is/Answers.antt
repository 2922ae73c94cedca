-- `is` compares a code with a letter and its lower-case form.
use Rattle.std.proofs.Common.{arith}
use Rattle.definitions.specs.Check.{is}
use Rattle.arguments.proofs.Signed.{word_same}
use Rattle.arguments.proofs.is.Goals as goal

pub returns : goal.returns
unfolding is
returns c = grind (arith, word_same)
