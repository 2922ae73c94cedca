-- `strips` rounds up the extent over the width.
use mathlib.Core.Path.{sym, ◌∙◌}
use Rattle.definitions.specs.Call.{strips}
use Rattle.arguments.proofs.strips.Goals as goal

pub returns-then-is_empty : goal.returns-then-is_empty
unfolding strips
returns-then-is_empty c = simp (sym c.is_empty.ensures ∙ c.if-is_empty.true)

pub returns : goal.returns
unfolding strips
returns c = simp (sym c.is_empty.ensures ∙ c.if-is_empty.false, c.extent.ensures.0)
