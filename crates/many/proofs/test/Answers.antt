-- The tests in turn.
use mathlib.Core.Path.{◌≡◌}
use mathlib.Core.Bool.{false, ◌||◌}
use Rattle.std.proofs.Common.{arith}
use Rattle.definitions.specs.Check.{bad_width}
use Rattle.definitions.specs.Many.{first_number, refusal}
use Rattle.arguments.specs.Refusal.{first_of}
use Rattle.arguments.proofs.Signed.{word_same}
use Rattle.arguments.proofs.Turns.{handed, stopped}
use Rattle.many.proofs.Numbers.{no_items}
use Rattle.many.proofs.test.Goals as goal

pub returns-then-bad_width : goal.returns-then-bad_width
unfolding refusal first_number
returns-then-bad_width c = grind (arith, word_same)

pub returns-in_err-test_words : goal.returns-in_err-test_words
unfolding refusal first_number first_of
returns-in_err-test_words c =
    let widths : (bad_width c.args.w || bad_width c.args.r) ≡ false = grind (arith, word_same) in
    handed _ c.from_residual.ensures.1 (rw widths (stopped _ _ c.in_err-test_words.ensures))

pub returns-then-bad_count : goal.returns-then-bad_count
unfolding refusal first_number
returns-then-bad_count c = grind (arith, word_same, c.in_ok-test_words.ensures)

pub returns-then-bad_stride : goal.returns-then-bad_stride
unfolding refusal first_number
returns-then-bad_stride c = grind (arith, word_same, c.in_ok-test_words.ensures)

pub returns-then-count-eq0 : goal.returns-then-count-eq0
unfolding refusal first_number
returns-then-count-eq0 c = grind (arith, word_same, c.in_ok-test_words.ensures, no_items)

pub returns-in_err-test_arrays : goal.returns-in_err-test_arrays
unfolding refusal first_number
returns-in_err-test_arrays c = handed _ c.from_residual-in_err-test_arrays.ensures.1 (grind (arith, word_same, c.in_ok-test_words.ensures, c.in_err-test_arrays.ensures))

pub returns-then-pack-copied : goal.returns-then-pack-copied
unfolding refusal first_number
returns-then-pack-copied c = grind (arith, word_same, c.in_ok-test_words.ensures, c.in_ok-test_arrays.ensures)

pub returns : goal.returns
unfolding refusal first_number
returns c = grind (arith, word_same, c.in_ok-test_words.ensures, c.in_ok-test_arrays.ensures)
