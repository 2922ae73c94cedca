-- `test_words` is what the tests of codes, sizes and leading dimensions in turn give.
use Rattle.std.proofs.Common.{arith}
use Rattle.arguments.specs.Refusal.{first_of}
use Rattle.arguments.proofs.Refusals.{words-tested}
use Rattle.arguments.proofs.Turns.{handed}
use Rattle.arguments.proofs.test_words.Goals as goal

pub returns-in_err-codes : goal.returns-in_err-codes
unfolding first_of
returns-in_err-codes c = handed _ c.from_residual.ensures.1 (grind (arith, words-tested c.args.g _ c.places-row.ensures, c.in_err-codes.ensures))

pub returns-in_err-sizes : goal.returns-in_err-sizes
unfolding first_of
returns-in_err-sizes c = handed _ c.from_residual-in_err-sizes.ensures.1 (grind (arith, words-tested c.args.g _ c.places-row.ensures, c.in_ok-codes.ensures, c.in_err-sizes.ensures))

pub returns : goal.returns
unfolding first_of
returns c = grind (arith, words-tested c.args.g _ c.places-row.ensures, c.in_ok-codes.ensures, c.in_ok-sizes.ensures)
