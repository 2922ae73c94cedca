-- `short` tests that an array has fewer elements than it needs.
use Rattle.definitions.specs.Check.{short}
use Rattle.arguments.proofs.short.Goals as goal

pub returns : goal.returns
unfolding short
returns c = simp c.needed.ensures
