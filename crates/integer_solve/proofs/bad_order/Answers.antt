-- `bad_order` tests that an order is not 1 to 64.
use Rattle.definitions.specs.Check.{nat}
use Rattle.arguments.proofs.Signed.{same}
use Rattle.integer_solve.specs.Equations.{bad_order}
use Rattle.integer_solve.proofs.bad_order.Goals as goal

pub returns : goal.returns
unfolding bad_order
returns c = rw (same nat c.args.n c.ranges.n.sfits c.size-order.ensures)
