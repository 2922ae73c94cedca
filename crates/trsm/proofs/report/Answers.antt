-- `report` hands back the index as a number.
use mathlib.Core.Path.{◌∙◌}
use mir.Syntax.{w32}
use mir.ValLaws.{to_z_pos}
use Rattle.arrays.specs.Search.{answer_of}
use Rattle.trsm.proofs.report.Goals as goal

pub returns-in-Some : goal.returns-in-Some
unfolding answer_of
returns-in-Some c = to_z_pos w32 c.in-Some.i (rw c.in-Some.is at c.requires) ∙ rw c.in-Some.is

pub returns-in-None : goal.returns-in-None
unfolding answer_of
returns-in-None c = rw c.in-None.is
