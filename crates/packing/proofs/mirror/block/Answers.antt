-- `mirror::block` meets its contract: the lines below x are done.
use Rattle.arrays.proofs.RegionLaws.{region-no-columns, region-column}
use Rattle.arrays.proofs.PartLaws.{column-room}
use lib.Ieee.{nan}
use native.Mathlib.Omega.{arith}
use Rattle.packing.proofs.mirror.block.Goals as goal

pub loop-x-init : goal.loop-x-init
loop-x-init c = region-no-columns _ _ _ _

pub loop-x-preserved : goal.loop-x-preserved
loop-x-preserved c = let room = column-room c.args.stride c.loop-x-test.true in
    region-column nan c.args.stride (omega arith) _ _ _ _ _ _ (omega arith) (omega (arith, room)) c.loop-x.invariant c.line.ensures
