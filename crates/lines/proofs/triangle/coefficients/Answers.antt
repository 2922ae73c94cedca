-- `triangle::coefficients` meets its contract, however the coefficients stand in A.
use mathlib.Core.Path.{sym, ◌∙◌}
use native.Mathlib.Omega.{arith}
use lib.ListN.{length}
use Rattle.lines.proofs.TriangleLaws.{other-side, columns-are, rows_are, block_inside}
use Rattle.lines.proofs.triangle.coefficients.Goals as goal

pub by_columns-requires : goal.by_columns-requires
by_columns-requires c =
    let g = c.args in
    (omega (arith, c.requires), omega (arith, c.requires), omega (arith, c.requires), block_inside g.a.t g.a.ld g.x0 g.n (length g.a.cells.now) c.requires.3)

pub returns-then-are_columns : goal.returns-then-are_columns
returns-then-are_columns c =
    let g = c.args in
    let r = c.by_columns.ensures in
    (r.0, λ i p hi hp b. r.1 i p hi hp b ∙ columns-are g.left g.a.t g.a.cells.now g.a.ld _ _ (sym c.are_columns.ensures ∙ c.if-are_columns.true))

pub by_rows-requires : goal.by_rows-requires
by_rows-requires c =
    let g = c.args in
    (omega (arith, c.requires), omega (arith, c.requires), omega (arith, c.requires), block_inside g.a.t g.a.ld g.x0 g.n (length g.a.cells.now) c.requires.3)

pub returns : goal.returns
returns c =
    let g = c.args in
    let r = c.by_rows.ensures in
    (r.0, λ i p hi hp b. r.1 i p hi hp (other-side g.after i p b) ∙ rows_are g.left g.a.t g.a.cells.now g.a.ld _ _ (sym c.are_columns.ensures ∙ c.if-are_columns.false))
