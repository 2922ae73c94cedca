-- `triangle::in_column` meets its contract.
use mathlib.Core.Path.{refl}
use native.Mathlib.Omega.{arith}
use Rattle.lines.proofs.TriangleLaws.{column-of}
use Rattle.lines.proofs.triangle.in_column.Goals as goal

pub returns : goal.returns
returns c =
    let g = c.args in
    column-of g.q g.lo g.count _ g.a.now g.v.now _ (omega (arith, c.requires)) (omega (arith, c.requires)) (omega (arith, c.requires)) refl (omega (arith, c.requires, c.if-count-eq0)) c.spread.ensures
