-- `clear_lines` meets its contract on either side.
use Rattle.lines.specs.Lines.{grid}
use Rattle.trmm.proofs.clear_lines.Goals as goal

pub returns-then-g : goal.returns-then-g
unfolding grid
returns-then-g c = rw c.if-g.true c.clear.ensures

pub returns : goal.returns
unfolding grid
returns c = rw c.if-g.false c.clear-2.ensures
