-- `test_all` refuses with 30, a place, or an array.
use Rattle.std.proofs.Common.{arith}
use Rattle.arguments.specs.Refusal.{first_of}
use Rattle.arguments.proofs.Signed.{word_same}
use Rattle.arguments.proofs.Refusals.{refusal-width, refusal_is}
use Rattle.arguments.proofs.Turns.{handed}
use Rattle.arguments.proofs.test_all.Goals as goal

pub returns-then-bad_width : goal.returns-then-bad_width
returns-then-bad_width c = grind (arith, word_same, refusal-width c.args.w c.args.r c.args.g)

pub returns-in_err-test_words : goal.returns-in_err-test_words
unfolding first_of
returns-in_err-test_words c =
    handed _ c.from_residual.ensures.1
    (grind (arith, word_same, refusal_is c.args.w c.args.r c.args.g, c.in_err-test_words.ensures))

pub returns : goal.returns
unfolding first_of
returns c = grind (arith, word_same, refusal_is c.args.w c.args.r c.args.g, c.in_ok-test_words.ensures)
