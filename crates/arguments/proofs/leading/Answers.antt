-- The tests of the leading dimensions, in turn.
use Rattle.definitions.specs.Check.{call_of, bad_with, bad}
use Rattle.definitions.proofs.CheckLaws.{column}
use Rattle.arguments.specs.Refusal.{first_of}
use Rattle.arguments.specs.Tests.{leading, tests}
use native.Mathlib.Omega.{arith}
use Rattle.arguments.proofs.Signed.{word_same}
use Rattle.arguments.proofs.Turns.{handed}
use Rattle.arguments.proofs.leading.Goals as goal

pub returns-in_err-test : goal.returns-in_err-test
unfolding tests leading column bad bad_with call_of first_of
returns-in_err-test c = handed _ c.from_residual.ensures.1 (grind (arith, word_same, c.in_err-test.ensures))

pub returns-in_err-test-2 : goal.returns-in_err-test-2
unfolding tests leading column bad bad_with call_of first_of
returns-in_err-test-2 c = handed _ c.from_residual-in_err-test-2.ensures.1 (grind (arith, word_same, c.in_ok-test.ensures, c.in_err-test-2.ensures))

pub returns : goal.returns
unfolding tests leading column bad bad_with call_of first_of
returns c = grind (arith, word_same, c.in_ok-test.ensures, c.in_ok-test-2.ensures)
