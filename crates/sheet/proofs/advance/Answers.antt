-- `advance` goes to the next strip, or closes the record.
use mathlib.Core.Path.{◌∙◌}
use Rattle.sheet.proofs.Steps.{next-strip, next-record}
use native.Mathlib.Omega.{arith}
use Rattle.sheet.proofs.advance.Goals as goal

pub returns-then-s-n : goal.returns-then-s-n
returns-then-s-n c = (λ f g l m e z. next-strip _ _ _ _ _ f g l m e z c.if-s-n.true, λ _. (omega (arith, c.if-s-n.true), omega arith))

pub returns-else-s-n : goal.returns-else-s-n
returns-else-s-n c = (
  λ f g l m e z. let r = next-record _ _ _ _ _ f g l m e z (omega (arith, c.if-s-n.false)) in (r.0, c.then_some.ensures ∙ r.1),
  λ z. absurd (let f : ⊥ = omega arith in f),
)
