-- `direct::corner_columns` meets its contract: the columns below j are done.
use mathlib.Core.Bool.{false}
use mathlib.Core.Path.{◌≡◌}
use Rattle.arrays.specs.Update.{update, entries, only, corner}
use Rattle.direct.specs.Product.{strided, product}
use Rattle.direct.proofs.corner_columns.Given as goal

abbrev pub invariant-loop-j : goal.invariant-loop-j
invariant-loop-j l = l.c ≡ update (entries l.ld (only (corner l.lower l.order l.j) (product l.alpha (strided l.a.cells.now l.a.row l.a.column) (strided l.b.cells.now l.b.row l.b.column) false l.k))) l.initial.c
