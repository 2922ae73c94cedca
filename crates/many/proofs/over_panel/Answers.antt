-- `over_panel` has m for the leading dimension of A, and all else as it was.
use borrow.Author.Rules.{rules}
use Rattle.many.specs.Panel.{over_panel}
use Rattle.many.proofs.over_panel.Goals as goal

pub returns : goal.returns
unfolding over_panel
returns c = search rules
