-- `items` makes one item after the other.
use mathlib.Core.Path.{refl, ap, ◌∙◌}
use mathlib.Core.List.{List}
use native.Mathlib.Numerals.{add-one}
use lib.Ieee.{Float}
use Rattle.arrays.specs.Fold.{fold}
use Rattle.definitions.specs.Element.{result}
use Rattle.definitions.specs.Many.{item}
use Rattle.many.proofs.items.Goals as goal

pub loop-i-init : goal.loop-i-init
unfolding fold
loop-i-init c = refl

pub loop-i-preserved : goal.loop-i-preserved
unfolding fold item
loop-i-preserved c =
    rw add-one (c.item.ensures ∙ ap (λ (l : List Float). item (result c.args.call c.args.a.now) c.args.s.b c.args.s.c c.args.b.now l c.loop-i.i) c.loop-i.invariant)
