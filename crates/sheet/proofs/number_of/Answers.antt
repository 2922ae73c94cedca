-- `number_of` is -1 where there is none.
use mathlib.Core.Path.{sym, ap, ◌∙◌}
use mir.Syntax.{w32}
use mir.ValLaws.{to_z_pos}
use Rattle.sheet.specs.Lent.{report}
use Rattle.sheet.proofs.number_of.Goals as goal

pub returns-in-Some : goal.returns-in-Some
unfolding report
returns-in-Some c = to_z_pos w32 c.in-Some.q (rw c.in-Some.is at c.requires) ∙ ap report (sym c.in-Some.is)

pub returns-in-None : goal.returns-in-None
unfolding report
returns-in-None c = ap report (sym c.in-None.is)
