-- `pass::clear` meets its contract: what the closure makes of an element.
use lib.Ieee.{of_bits}
use borrow.Author.Rules.{rules}
use Rattle.floats.specs.Operations.{0f}
use Rattle.blocks.proofs.pass.clear.Goals as goal

pub returns : goal.returns
unfolding of_bits
returns c = c.each_entry.ensures (λ x. 0f) (λ x r e. search rules)
