-- `diagonal` meets its contract on either side.
use Rattle.trmm_diagonal.proofs.diagonal.Goals as goal

pub returns : goal.returns
returns c = rw c.if-g.false (rw c.if-g.false at c.across.ensures)
