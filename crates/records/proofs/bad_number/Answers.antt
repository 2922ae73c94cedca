-- `bad_number` tests the number of a lent array.
use mathlib.Core.Path.{ap, ◌∙◌}
use mir.Syntax.{w32}
use mir.ValLaws.{to_z-of_z}
use Rattle.definitions.specs.Check.{nat, negative}
use Rattle.records.specs.Judgement.{bad_number}
use Rattle.records.proofs.bad_number.Goals as goal

pub returns : goal.returns
unfolding bad_number
returns c =
    let e = to_z-of_z w32 c.args.number c.ranges.number in
    simp (c.negative.ensures ∙ ap negative e, c.size.ensures ∙ ap nat e)
