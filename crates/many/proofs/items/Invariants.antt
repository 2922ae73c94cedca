-- `items` makes one item after the other.
use mathlib.Core.Path.{◌≡◌}
use Rattle.arrays.specs.Fold.{fold}
use Rattle.definitions.specs.Element.{result}
use Rattle.definitions.specs.Many.{item}
use Rattle.many.proofs.items.Given as goal

abbrev pub invariant-loop-i : goal.invariant-loop-i
invariant-loop-i l = l.c ≡ fold (item (result l.call l.a) l.s.b l.s.c l.b) l.i l.initial.c
