-- `direct::columns` meets its contract: the columns below j are done.
use Rattle.direct.specs.Product.{strided, product}
use Rattle.arrays.specs.Update.{update, region}
use mathlib.Core.Path.{◌≡◌}
use Rattle.direct.proofs.columns.Given as goal

abbrev pub invariant-loop-j : goal.invariant-loop-j
invariant-loop-j l = l.c ≡ update (region l.area.ld l.area.rows l.j (product l.alpha (strided l.a.cells.now l.a.row l.a.column) (strided l.b.cells.now l.b.row l.b.column) l.down l.k)) l.initial.c
