-- `untested` tests that the inputs are not read.
use Rattle.definitions.specs.Check.{untested}
use Rattle.arguments.proofs.untested.Goals as goal

pub returns : goal.returns
unfolding untested
returns c = simp (c.is_empty.ensures, c.start_only.ensures)
