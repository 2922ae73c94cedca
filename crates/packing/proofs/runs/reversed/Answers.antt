-- `runs::reversed` meets its contract: the elements below y are done.
use native.Mathlib.Omega.{arith}
use lib.Ieee.{nan}
use Rattle.arrays.proofs.UpdateLaws.{below_none, below_more}
use Rattle.packing.proofs.runs.reversed.Goals as goal

pub loop-y-init : goal.loop-y-init
loop-y-init c = below_none _ _

pub loop-y-preserved : goal.loop-y-preserved
loop-y-preserved c = below_more nan _ _ _ _ c.loop-y.invariant (omega arith)
