-- `lines::take` copies the elements of each line, on either side and to lines of either side.
use mathlib.Core.Path.{ap, ◌∙◌}
use native.Mathlib.Omega.{arith}
use Rattle.packing.proofs.FactorLaws.{upward}
use Rattle.lines.specs.Lines.{line_form}
use Rattle.lines.proofs.TakeLaws.{taken-left, taken-right, left-inside, right-inside}
use Rattle.lines.proofs.take.Goals as goal

pub pack-requires : goal.pack-requires
pack-requires c = (
  omega arith,
  omega arith,
  omega arith,
  omega arith,
  upward _ _ (omega (arith, c.ranges)),
  upward _ _ (omega arith),
  λ q l hq hl. left-inside c.args.g.left (c.line_form-f.ensures ∙ ap (line_form c.args.g.left) c.if-side.true) _ _ _ _ _ q l (omega arith) hl c.requires.room,
)

pub returns-then-side : goal.returns-then-side
returns-then-side c = rw c.if-side.true (c.pack.ensures ∙ taken-left c.args.g.left (c.line_form-f.ensures ∙ ap (line_form c.args.g.left) c.if-side.true) _ _ _ _ _ _)

pub pack-requires-2 : goal.pack-requires-2
pack-requires-2 c = (
  omega arith,
  omega arith,
  omega arith,
  omega arith,
  upward _ _ (omega arith),
  upward _ _ (omega (arith, c.ranges)),
  λ l q hl hq. right-inside c.args.g.left (c.line_form-f.ensures ∙ ap (line_form c.args.g.left) c.if-side.false) _ _ _ _ _ q l (omega arith) hl c.requires.room,
)

pub returns : goal.returns
returns c = rw c.if-side.false (c.pack-2.ensures ∙ taken-right c.args.g.left (c.line_form-f.ensures ∙ ap (line_form c.args.g.left) c.if-side.false) _ _ _ _ _ _)
