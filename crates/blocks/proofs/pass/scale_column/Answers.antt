-- `pass::scale_column` meets its contract: what the closure makes of an element.
use borrow.Author.Rules.{rules}
use Rattle.floats.specs.Operations.{◌⊗◌}
use Rattle.blocks.proofs.pass.scale_column.Goals as goal

pub returns : goal.returns
returns c = c.each.ensures (λ x. c.args.s ⊗ x) (λ x r e. search rules)
