-- `solve_lines` clears or solves all lines.
use mathlib.Core.Path.{sym, ◌∙◌}
use Rattle.forms.specs.Forms.{op_matrix}
use Rattle.lines.proofs.GridLaws.{some-ld}
use Rattle.trsm.proofs.LineLaws.{all-cleared, all_done}
use native.Mathlib.Omega.{arith}
use Rattle.trsm.proofs.solve_lines.Goals as goal

pub returns-then-is_zero : goal.returns-then-is_zero
returns-then-is_zero c =
    let args = c.args in
    all-cleared args.g.left args.by.down args.g.ld args.g.m args.g.lines args.by.diag args.alpha (op_matrix args.by.a) (some-ld args.g.left args.g.ld args.g.m args.g.lines _ (omega (arith, c.requires)) (omega (arith, c.requires)) c.requires.room) args.b.now _ _ _ c.pick-rows.ensures c.pick-cols.ensures
    (sym c.is_zero.ensures ∙ c.if-is_zero.true) c.clear.ensures

pub returns-then-tiny : goal.returns-then-tiny
returns-then-tiny c =
    let args = c.args in
    all_done args.g.left args.by.down args.g.ld args.g.m args.g.lines args.by.diag args.alpha (op_matrix args.by.a) (some-ld args.g.left args.g.ld args.g.m args.g.lines _ (omega (arith, c.requires)) (omega (arith, c.requires)) c.requires.room) args.b.now _ _ _ c.pick-rows.ensures c.pick-cols.ensures
    (sym c.is_zero.ensures ∙ c.if-is_zero.false) _ _ _ c.factor.ensures c.scale.ensures c.solve_elements.ensures

pub returns : goal.returns
returns c =
    let args = c.args in
    all_done args.g.left args.by.down args.g.ld args.g.m args.g.lines args.by.diag args.alpha (op_matrix args.by.a) (some-ld args.g.left args.g.ld args.g.m args.g.lines _ (omega (arith, c.requires)) (omega (arith, c.requires)) c.requires.room) args.b.now _ _ _ c.pick-rows.ensures c.pick-cols.ensures
    (sym c.is_zero.ensures ∙ c.if-is_zero.false) _ _ _ c.factor.ensures c.scale.ensures c.solve.ensures
