-- `factor::turn_of` meets its contract.
use mathlib.Core.Path.{sym}
use native.Mathlib.Omega.{arith}
use Rattle.packing.proofs.FactorLaws.{turn_up, turn-down}
use Rattle.packing.proofs.factor.turn_of.Goals as goal

pub returns-then-down : goal.returns-then-down
returns-then-down c = (sym (turn-down _ _ c.if-down.true), omega arith)

pub returns-else-down : goal.returns-else-down
returns-else-down c = (sym (turn_up _ _ c.if-down.false), omega arith)
