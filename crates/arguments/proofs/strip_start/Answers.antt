-- `strip_start` is the first row where strips cut rows, else the first element of the first column.
use Prim.Native.Nat.{◌*◌}
use mathlib.Core.Path.{◌≡◌, sym, ◌∙◌}
use native.Mathlib.Omega.{arith}
use Rattle.arguments.specs.Strip.{strip_start}
use Rattle.arguments.proofs.strip_start.Goals as goal
use Rattle.arguments.proofs.strip_start.Goals.{After-ld_output}

by-columns : (c : After-ld_output) → c.args.from * c.ld_output.result ≡ strip_start c.args.c c.args.from
by-columns c = simp (sym c.cuts_rows.ensures ∙ c.if-cuts_rows.false, c.ld_output.ensures)

pub overflow_mul-result : goal.overflow_mul-result
overflow_mul-result c = omega (arith, by-columns (goal.at.overflow_mul-result c).After-ld_output, c.requires)

pub returns : goal.returns
returns c = by-columns (goal.at.returns c).After-ld_output
