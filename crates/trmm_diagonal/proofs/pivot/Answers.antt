-- `pivot` is the diagonal entry, which is not read where it is unit.
use Rattle.trmm_diagonal.proofs.DiagonalLaws.{unit-entry, stored-entry}
use lib.Ieee.{of_bits}
use Rattle.trmm_diagonal.proofs.pivot.Goals as goal

pub returns-in-Unit : goal.returns-in-Unit
unfolding of_bits
returns-in-Unit c = unit-entry _ _ _ c.in-Unit.is

pub returns-in-Nonunit : goal.returns-in-Nonunit
returns-in-Nonunit c = stored-entry _ _ _ _ _ c.in-Nonunit.is
