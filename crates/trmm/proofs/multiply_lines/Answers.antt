-- `multiply_lines` meets its contract, whether alpha is zero or not, and whether the call is tiny or not.
use mathlib.Core.Bool.{false}
use mathlib.Core.Path.{◌≡◌, sym, ◌∙◌}
use Prim.Native.Nat.{◌<◌}
use lib.ListN.{length}
use Rattle.floats.specs.Operations.{1f}
use Rattle.definitions.specs.Number.{is_zero}
use Rattle.definitions.specs.Storage.{with_diagonal}
use Rattle.forms.specs.Forms.{op_matrix}
use Rattle.lines.proofs.GridLaws.{some-ld}
use Rattle.trmm.proofs.StripLaws.{lines-cleared, lines-summed}
use native.Mathlib.Omega.{arith}
use Rattle.trmm.proofs.multiply_lines.Goals as goal
use Rattle.trmm.proofs.multiply_lines.Goals.{Else-is_zero, Start}

wide : (c : Start) → 0 < c.args.g.ld
wide c =
    let args = c.args in some-ld args.g.left args.g.ld args.g.m args.g.lines (length args.b.now) (omega (arith, c.requires.m_nonzero)) (omega (arith, c.requires.m_nonzero)) c.requires.room

not-zero : (c : Else-is_zero) → is_zero c.args.alpha ≡ false
not-zero c =
    sym c.is_zero.ensures ∙ c.if-is_zero.false

pub returns-then-is_zero : goal.returns-then-is_zero
returns-then-is_zero c = let args = c.args in
    lines-cleared args.g.left args.after args.alpha (with_diagonal 1f args.diag (op_matrix args.a)) args.g.ld args.g.m args.g.lines (wide (goal.at.returns-then-is_zero c).Start) args.b.now _ (sym c.is_zero.ensures ∙ c.if-is_zero.true) c.clear_lines.ensures

pub returns-then-tiny : goal.returns-then-tiny
returns-then-tiny c = let args = c.args in
    lines-summed args.g.left args.after args.alpha (with_diagonal 1f args.diag (op_matrix args.a)) args.g.ld args.g.m args.g.lines (wide (goal.at.returns-then-tiny c).Start) args.b.now _ (not-zero (goal.at.returns-then-tiny c).Else-is_zero) _ c.factor.ensures c.sum_elements.ensures

pub returns : goal.returns
returns c = let args = c.args in
    lines-summed args.g.left args.after args.alpha (with_diagonal 1f args.diag (op_matrix args.a)) args.g.ld args.g.m args.g.lines (wide (goal.at.returns c).Start) args.b.now _ (not-zero (goal.at.returns c).Else-is_zero) _ c.factor.ensures c.sum_lines.ensures
