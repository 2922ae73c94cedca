-- `pass::each_entry` meets its contract: the columns below j are done.
use native.Mathlib.Omega.{arith}
use lib.Ieee.{nan}
use Rattle.arrays.proofs.PartLaws.{column-room}
use Rattle.arrays.proofs.RegionLaws.{region-no-columns, region-column}
use Rattle.blocks.proofs.pass.each_entry.Goals as goal

pub loop-j-init : goal.loop-j-init
loop-j-init g c = λ h e. region-no-columns _ _ _ _

pub loop-j-preserved : goal.loop-j-preserved
loop-j-preserved g c = λ h e.
    let room = column-room c.args.area.ld c.loop-j-test.true in
    region-column nan _ (omega arith) _ _ _ _ _ _ (omega arith) (omega (arith, room)) (c.loop-j.invariant h e) (c.each.ensures h e)
