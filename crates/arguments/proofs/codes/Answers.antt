-- The tests of the codes, in turn.
use Rattle.definitions.specs.Check.{bad_with, bad}
use Rattle.definitions.proofs.CheckLaws.{column}
use Rattle.arguments.specs.Refusal.{first_of}
use Rattle.arguments.specs.Tests.{bad_side, bad_uplo, bad_trans, codes, tests}
use native.Mathlib.Omega.{arith}
use Rattle.arguments.proofs.Signed.{word_same, same}
use Rattle.arguments.proofs.Turns.{handed, stopped}
use Rattle.arguments.proofs.codes.Goals as goal

pub returns-in_err-test : goal.returns-in_err-test
unfolding tests codes column bad bad_with first_of
returns-in_err-test c = handed _ c.from_residual.ensures.1 (grind (arith, word_same, c.in_err-test.ensures))

pub returns-in_err-test-2 : goal.returns-in_err-test-2
unfolding tests codes column bad bad_with first_of
returns-in_err-test-2 c = handed _ c.from_residual-in_err-test-2.ensures.1 (grind (arith, word_same, c.in_ok-test.ensures, c.in_err-test-2.ensures))

pub returns-in_err-test-3 : goal.returns-in_err-test-3
unfolding tests codes column bad bad_with first_of
returns-in_err-test-3 c = handed _ c.from_residual-in_err-test-3.ensures.1 (grind (arith, word_same, c.in_ok-test.ensures, c.in_ok-test-2.ensures, c.in_err-test-3.ensures))

pub returns-in_err-test-4 : goal.returns-in_err-test-4
unfolding tests codes column bad bad_with first_of
returns-in_err-test-4 c =
    let g = c.args.g in
    handed _ c.from_residual-in_err-test-4.ensures.1
    (simp (
      ← same bad_side g.side (omega arith) c.bad_side.ensures,
      ← same bad_uplo g.uplo (omega arith) c.bad_uplo.ensures,
      ← same bad_trans g.transa (omega arith) c.bad_trans.ensures,
      ← same bad_trans g.transb (omega arith) c.bad_trans-2.ensures,
      c.in_ok-test.ensures,
      c.in_ok-test-2.ensures,
      c.in_ok-test-3.ensures,
    ) (stopped _ _ c.in_err-test-4.ensures))

pub returns : goal.returns
unfolding tests codes column bad bad_with first_of
returns c = grind (arith, word_same, c.in_ok-test.ensures, c.in_ok-test-2.ensures, c.in_ok-test-3.ensures, c.in_ok-test-4.ensures)
