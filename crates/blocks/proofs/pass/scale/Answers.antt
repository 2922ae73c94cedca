-- `pass::scale` meets its contract: what the closure makes of an element.
use borrow.Author.Rules.{rules}
use Rattle.floats.specs.Operations.{◌⊗◌}
use Rattle.blocks.proofs.pass.scale.Goals as goal

pub returns : goal.returns
returns c = c.each_entry.ensures (λ x. c.args.s ⊗ x) (λ x r e. search rules)
