-- `bad_offset` tests the sign of an offset, and the length of its array.
use mathlib.Core.Path.{ap, ◌∙◌}
use mir.Syntax.{w32}
use mir.ValLaws.{to_z-of_z}
use Rattle.definitions.specs.Check.{nat, negative}
use Rattle.records.specs.Judgement.{bad_offset}
use Rattle.records.proofs.bad_offset.Goals as goal

pub returns : goal.returns
unfolding bad_offset
returns c =
    let number = to_z-of_z w32 c.args.number c.ranges.number in
    let offset = to_z-of_z w32 c.args.offset c.ranges.offset in
    simp (
      c.of-length.ensures,
      c.size.ensures ∙ ap nat number,
      c.negative.ensures ∙ ap negative offset,
      c.size-2.ensures ∙ ap nat offset,
    )
