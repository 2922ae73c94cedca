-- `copied` is m times k where a copy is made.
use Rattle.std.proofs.Common.{arith}
use Rattle.many.specs.Panel.{panel_size}
use Rattle.definitions.specs.Many.{copies, copied}
use Rattle.many.proofs.copied.Goals as goal

pub returns-then-count-eq0 : goal.returns-then-count-eq0
unfolding copied copies
returns-then-count-eq0 c = grind arith

pub returns : goal.returns
unfolding copied copies panel_size
returns c = grind arith
