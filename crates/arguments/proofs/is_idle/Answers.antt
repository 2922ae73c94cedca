-- `is_idle` tests that there is nothing to do.
use Rattle.definitions.specs.Check.{idle}
use Rattle.arguments.proofs.is_idle.Goals as goal

pub returns : goal.returns
unfolding idle
returns c = simp (c.is_empty.ensures, c.start_only.ensures, c.in_place.ensures, c.is_one.ensures)
