-- `extent` is the columns, or the rows where strips cut rows.
use mathlib.Core.Path.{sym, ◌∙◌}
use Rattle.definitions.specs.Call.{extent}
use native.Mathlib.Omega.{arith}
use Rattle.arguments.proofs.extent.Goals as goal

pub returns-then-cuts_rows : goal.returns-then-cuts_rows
unfolding extent
returns-then-cuts_rows c = (simp (sym c.cuts_rows.ensures ∙ c.if-cuts_rows.true), omega arith)

pub returns-else-cuts_rows : goal.returns-else-cuts_rows
unfolding extent
returns-else-cuts_rows c = (simp (sym c.cuts_rows.ensures ∙ c.if-cuts_rows.false), omega arith)
