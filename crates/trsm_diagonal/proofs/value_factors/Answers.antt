-- `value_factors` copies the values of an unknown, and multiplies them by -1.0 for side L.
use Rattle.trsm_diagonal.proofs.FactorLaws.{minus_one, values-kept, values-scaled}
use Rattle.trsm_diagonal.proofs.value_factors.Goals as goal

pub returns-then-left : goal.returns-then-left
returns-then-left c = values-scaled c.args.lines c.args.s.now c.args.u.now _ c.copy.ensures c.if-left.true _ _ minus_one c.scale_column.ensures

pub returns-else-left : goal.returns-else-left
returns-else-left c = values-kept c.args.lines c.args.s.now c.args.u.now _ c.copy.ensures c.if-left.false
