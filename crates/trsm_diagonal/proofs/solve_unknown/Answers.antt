-- `solve_unknown` adds the terms of one unknown of each line and ends its sum.
use mathlib.Core.Path.{sym, ◌∙◌}
use Rattle.definitions.specs.Element.{by_zero}
use Rattle.trsm_diagonal.proofs.FactorLaws.{unit-end, nonunit-end}
use Rattle.trsm_diagonal.proofs.BlockLaws.{diagonal-entry}
use Rattle.trsm_diagonal.proofs.solve_unknown.Goals as goal

pub returns-in-Unit : goal.returns-in-Unit
unfolding by_zero
returns-in-Unit c = (unit-end c.args.lines _ _ c.args.s.now _ c.column.ensures c.in-Unit.is, rw c.in-Unit.is)

pub returns-in-Nonunit : goal.returns-in-Nonunit
unfolding by_zero
returns-in-Nonunit c =
    let args = c.args in
    rw (sym (diagonal-entry args.by.a.t args.by.a.cells.now args.by.a.ld args.i))
    (nonunit-end c.args.lines _ _ c.args.s.now _ c.column-in-Nonunit.ensures _ c.in-Nonunit.is c.divide_column.ensures.0, c.divide_column.ensures.1 ∙ rw c.in-Nonunit.is)
