-- `bad_numbers` tests three array numbers.
use mathlib.Core.Path.{ap, ◌∙◌}
use mir.Syntax.{w32}
use mir.ValLaws.{to_z-of_z}
use Rattle.definitions.specs.Check.{nat}
use Rattle.records.specs.Judgement.{bad_number, bad_numbers}
use Rattle.records.proofs.bad_numbers.Goals as goal

pub returns : goal.returns
unfolding bad_numbers
returns c =
    let out = to_z-of_z w32 c.args.out c.ranges.out in
    let a = to_z-of_z w32 c.args.a c.ranges.a in
    let b = to_z-of_z w32 c.args.b c.ranges.b in
    simp (
      c.bad_number.ensures ∙ ap bad_number out,
      c.bad_number-2.ensures ∙ ap bad_number a,
      c.bad_number-3.ensures ∙ ap bad_number b,
      c.size-o.ensures ∙ ap nat out,
      c.size.ensures ∙ ap nat a,
      c.size-2.ensures ∙ ap nat b,
    )
