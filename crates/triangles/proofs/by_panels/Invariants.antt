-- `triangles::by_panels` meets its contract: the terms before the next piece are done.
use mathlib.Core.Bool.{false}
use mathlib.Core.Path.{◌≡◌}
use Rattle.arrays.specs.Update.{update}
use Rattle.packing.specs.Factor.{matrix_of}
use Rattle.direct.specs.Product.{from_column, partly}
use Rattle.triangles.specs.Part.{part_of}
use Rattle.triangles.proofs.by_panels.Given as goal

abbrev pub invariant-loop-l : goal.invariant-loop-l
invariant-loop-l l =
    (goal.iterator-loop-l).can_next l.l-iterator × (goal.iterator-loop-l).is_finite l.l-iterator × (l.l-iterator.end ≡ l.p.terms) × (l.l-iterator.step ≡ l.r)
    × (l.c ≡ update (part_of l.part (partly l.p.alpha (matrix_of l.p.left) (from_column l.part.from (matrix_of l.p.right)) false l.p.terms l.l-iterator.at)) l.initial.c)
