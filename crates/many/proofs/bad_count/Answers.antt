-- `bad_count` is the test of 42.
use mathlib.Core.Path.{ap, ◌∙◌}
use mir.Syntax.{w32}
use mir.ValLaws.{to_z-of_z}
use Rattle.definitions.specs.Check.{negative, nat}
use Rattle.definitions.specs.Many.{bad_count}
use Rattle.many.proofs.bad_count.Goals as goal

pub returns : goal.returns
unfolding bad_count
returns c =
    let e = to_z-of_z w32 c.args.count c.ranges.count in
    simp (c.negative.ensures ∙ ap negative e, c.size-n.ensures ∙ ap nat e)
