-- `Run::index` meets its contract.
use mathlib.Core.Path.{sym}
use Rattle.packing.proofs.FactorLaws.{along-up, along-down}
use Rattle.packing.proofs.factor.Run.index.Goals as goal

pub returns-then-self : goal.returns-then-self
returns-then-self c = sym (along-down _ _ c.if-self.true)

pub returns-else-self : goal.returns-else-self
returns-else-self c = sym (along-up _ _ c.if-self.false)
