-- `runs::spread_reversed` meets its contract: the lines below x are done.
use mathlib.Core.Path.{refl}
use native.Mathlib.Omega.{arith}
use lib.Ieee.{nan}
use Rattle.arrays.proofs.RegionLaws.{region-no-columns, row_more}
use Rattle.packing.proofs.runs.spread_reversed.Goals as goal

pub loop-x-init : goal.loop-x-init
loop-x-init c = region-no-columns _ _ _ _

pub loop-x-preserved : goal.loop-x-preserved
loop-x-preserved c = row_more nan 64 (omega arith) _ _ _ _ _ (omega arith) c.loop-x.invariant (λ x. refl)
