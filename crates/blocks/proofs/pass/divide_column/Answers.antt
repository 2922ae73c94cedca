-- `pass::divide_column` meets its contract: what the closure makes of an element.
use mathlib.Core.Path.{refl}
use lib.Ieee.{of_bits}
use borrow.Author.Rules.{rules}
use Rattle.floats.specs.Operations.{◌⊘◌}
use Rattle.blocks.proofs.pass.divide_column.Goals as goal

pub returns : goal.returns
unfolding of_bits
returns c = (c.each.ensures (λ x. x ⊘ c.args.d) (λ x r e. search rules), refl)
