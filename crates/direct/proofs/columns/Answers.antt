-- `direct::columns` meets its contract: the columns below j are done.
use Rattle.direct.proofs.DirectLaws.{right-column}
use Rattle.arrays.proofs.RegionLaws.{region-no-columns, region-column}
use Rattle.arrays.proofs.PartLaws.{column-room}
use lib.Ieee.{nan}
use native.Mathlib.Omega.{arith}
use Rattle.direct.proofs.columns.Goals as goal

pub loop-j-init : goal.loop-j-init
loop-j-init c = region-no-columns _ _ _ _

pub offset_bounds-b-x : goal.offset_bounds-b-x
offset_bounds-b-x c = omega (arith, c.requires.by_index.1 0 c.loop-j.j (omega arith) c.loop-j-test.true)

pub slice_bounds-column-count-in-loop-j : goal.slice_bounds-column-count-in-loop-j
slice_bounds-column-count-in-loop-j c = omega (arith, c.requires.by_index.1 0 c.loop-j.j (omega arith) c.loop-j-test.true)

pub slice_bounds-column-start-in-loop-j : goal.slice_bounds-column-start-in-loop-j
slice_bounds-column-start-in-loop-j c = omega (arith, c.requires.by_index.1 0 c.loop-j.j (omega arith) c.loop-j-test.true)

pub loop-j-preserved : goal.loop-j-preserved
loop-j-preserved c = let room = column-room c.args.area.ld c.loop-j-test.true in
    region-column nan _ (omega arith) _ _ _ _ _ _ (omega arith) (omega (arith, room)) c.loop-j.invariant (right-column _ _ _ _ _ _ _ _ _ _ _ c.column.ensures)
