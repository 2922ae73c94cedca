-- TRMM and TRSM write B, the others C.
use mathlib.Core.Path.{sym, ◌∙◌}
use Rattle.definitions.specs.Call.{ld_output}
use Rattle.arguments.proofs.ld_output.Goals as goal

pub returns-then-in_place : goal.returns-then-in_place
unfolding ld_output
returns-then-in_place c = simp (sym c.in_place.ensures ∙ c.if-in_place.true)

pub returns-else-in_place : goal.returns-else-in_place
unfolding ld_output
returns-else-in_place c = simp (sym c.in_place.ensures ∙ c.if-in_place.false)
