-- `fill` copies the columns, or nothing.
use native.Mathlib.Omega.{arith}
use Rattle.many.proofs.PanelLaws.{columns-packed, nothing-packed}
use Rattle.many.proofs.fill.Goals as goal

pub returns-then-n-eq0 : goal.returns-then-n-eq0
returns-then-n-eq0 c = nothing-packed _ _ _ _ c.if-n-eq0.true

pub returns : goal.returns
returns c =
    let h = c.requires.0 (omega (arith, c.if-n-eq0.false)) in
    columns-packed _ _ _ _ _ h.1 h.0 c.pack_columns.ensures
