-- `panel_size` is m times k, or 0.
use mathlib.Core.Path.{sym, ◌∙◌}
use Rattle.many.specs.Panel.{panel_size}
use Rattle.many.proofs.panel_size.Goals as goal

pub returns-then-untested : goal.returns-then-untested
unfolding panel_size
returns-then-untested c = simp (sym c.untested.ensures ∙ c.if-untested.true)

pub returns : goal.returns
unfolding panel_size
returns c = simp (sym c.untested.ensures ∙ c.if-untested.false)
