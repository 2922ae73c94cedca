-- The tests of the lengths, in turn.
use Rattle.definitions.specs.Check.{call_of, bad_with, bad}
use Rattle.definitions.proofs.CheckLaws.{column}
use Rattle.arguments.specs.Refusal.{first_of}
use Rattle.arguments.specs.Tests.{lengths, tests}
use native.Mathlib.Omega.{arith}
use Rattle.arguments.proofs.Turns.{handed}
use Rattle.arguments.proofs.lengths.Goals as goal

pub returns-in_err-test : goal.returns-in_err-test
unfolding tests lengths column bad bad_with call_of first_of
returns-in_err-test c = handed _ c.from_residual.ensures.1 (grind (arith, c.in_err-test.ensures))

pub returns-in_err-test-2 : goal.returns-in_err-test-2
unfolding tests lengths column bad bad_with call_of first_of
returns-in_err-test-2 c = handed _ c.from_residual-in_err-test-2.ensures.1 (grind (arith, c.in_ok-test.ensures, c.in_err-test-2.ensures))

pub returns : goal.returns
unfolding tests lengths column bad bad_with call_of first_of
returns c = grind (arith, c.in_ok-test.ensures, c.in_ok-test-2.ensures)
