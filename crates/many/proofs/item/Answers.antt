-- `item` lends the item's B and C to the routine's update.
use mathlib.Core.Path.{ap, ◌∙◌}
use mathlib.Core.List.{List, ◌++◌}
use lib.ListN.{take, drop}
use lib.Ieee.{Float}
use Rattle.arrays.proofs.PartLaws.{tail, put-tail}
use Rattle.definitions.specs.Element.{result}
use Rattle.many.proofs.PanelLaws.{min-rest}
use Rattle.many.proofs.item.Goals as goal

pub returns : goal.returns
returns c =
    put-tail c.args.fromc c.args.c.now _ c.requires.fromc_in_bounds.0
    ∙ ap (λ (l : List Float). take c.args.fromc c.args.c.now ++ l)
    (c.complete.ensures.0
    ∙ λ i. result c.args.call c.args.a.now ((tail c.min-x.result c.args.b.now ∙ ap (λ n. drop n c.args.b.now) c.min-x.ensures ∙ min-rest c.args.fromb c.args.b.now) i) (tail c.args.fromc c.args.c.now i))
