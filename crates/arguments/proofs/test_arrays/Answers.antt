-- `test_arrays` is what the tests of the arrays in turn give.
use Rattle.arguments.proofs.Refusals.{arrays-tested}
use Rattle.arguments.proofs.test_arrays.Goals as goal

pub returns : goal.returns
returns c = rw (← arrays-tested c.args.g _ c.places.ensures) c.lengths.ensures
