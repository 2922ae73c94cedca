-- `matrix_factors` takes the entries of op(A), and multiplies them by -1.0 for side R.
use native.Mathlib.Omega.{arith}
use mathlib.Core.Path.{◌∙◌}
use Rattle.packing.specs.Factor.{turn}
use Rattle.packing.proofs.FactorLaws.{turn_below, turn-turn}
use Rattle.trsm_diagonal.proofs.FactorLaws.{minus_one, matrix-kept, before-is-beside, entries-scaled}
use Rattle.trsm_diagonal.proofs.matrix_factors.Goals as goal

pub returns-then-left : goal.returns-then-left
returns-then-left c = λ q s h k. rw (turn-turn c.args.by.down c.args.n s (omega arith)) at (c.coefficients.ensures.1 (turn c.args.by.down c.args.n q) (turn c.args.by.down c.args.n s) (turn_below c.args.by.down c.args.n q k) (turn_below c.args.by.down c.args.n s (omega arith)) (before-is-beside c.args.by.down c.args.n q s h k)) ∙ matrix-kept _ c.if-left.true

pub returns : goal.returns
returns c = λ q s h k. entries-scaled _ c.args.n _ _ (turn c.args.by.down c.args.n q) s _ c.if-left.false minus_one (omega (arith, c.requires)) (omega (arith, c.requires, c.coefficients.ensures.0)) c.scale.ensures (turn_below c.args.by.down c.args.n q k) (omega arith) (rw (turn-turn c.args.by.down c.args.n s (omega arith)) at (c.coefficients.ensures.1 (turn c.args.by.down c.args.n q) (turn c.args.by.down c.args.n s) (turn_below c.args.by.down c.args.n q k) (turn_below c.args.by.down c.args.n s (omega arith)) (before-is-beside c.args.by.down c.args.n q s h k)))
