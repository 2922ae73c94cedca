-- `panels::panels` meets its contract: the terms before the next piece are done.
use mathlib.Core.Path.{◌≡◌}
use Rattle.arrays.specs.Update.{update, region}
use Rattle.packing.specs.Factor.{matrix_of}
use Rattle.direct.specs.Product.{from_row, from_column, partly}
use Rattle.kernel.proofs.panels.panels.Given as goal

abbrev pub invariant-loop-l : goal.invariant-loop-l
invariant-loop-l l =
    (goal.iterator-loop-l).can_next l.l-iterator × (goal.iterator-loop-l).is_finite l.l-iterator × (l.l-iterator.end ≡ l.p.terms) × (l.l-iterator.step ≡ l.r)
    × (l.c ≡ update (region l.area.ld l.area.rows l.area.cols (partly l.p.alpha (from_row l.i0 (matrix_of l.p.left)) (from_column l.j0 (matrix_of l.p.right)) l.down l.p.terms l.l-iterator.at)) l.initial.c)
