-- `start_only` tests that alpha or k is 0.
use Rattle.definitions.specs.Call.{start_only}
use Rattle.arguments.proofs.start_only.Goals as goal

pub returns : goal.returns
unfolding start_only
returns c = simp (c.is_zero.ensures, c.has_k.ensures)
