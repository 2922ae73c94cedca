-- `triangle::in_row` meets its contract, whether the terms run up or down.
use mathlib.Core.Path.{refl}
use native.Mathlib.Omega.{arith}
use Rattle.lines.proofs.TriangleLaws.{row_up, row-down}
use Rattle.lines.proofs.triangle.in_row.Goals as goal

pub returns-then-down : goal.returns-then-down
returns-then-down c =
    let g = c.args in
    row-down g.n g.lo g.count _ g.a.now g.v.now _ c.if-down.true (omega (arith, c.requires)) (omega (arith, c.requires)) refl c.reversed.ensures

pub returns : goal.returns
returns c =
    let g = c.args in
    row_up g.n g.lo g.count g.a.now g.v.now _ c.if-down.false (omega (arith, c.requires)) (omega (arith, c.requires)) c.copy.ensures
