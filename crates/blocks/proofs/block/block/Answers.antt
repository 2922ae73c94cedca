-- `block::block` meets its contract: the columns below j are done, two in a turn.
use Prim.Native.Nat.{◌+◌, ◌<◌}
use mathlib.Core.Path.{◌≡◌}
use native.Mathlib.Omega.{arith}
use lib.Ieee.{nan}
use Rattle.arrays.proofs.PartLaws.{column-room, columns-room}
use Rattle.arrays.proofs.RegionLaws.{region-no-columns, region-columns, region-column}
use Rattle.blocks.proofs.TermLaws.{columns_of, column-of}
use Rattle.blocks.proofs.block.block.Goals as goal

pub loop-j-init : goal.loop-j-init
loop-j-init c = (omega arith, region-no-columns _ _ _ _)

pub loop-j-preserved : goal.loop-j-preserved
loop-j-preserved c =
    let room = columns-room c.args.area.ld c.loop-j.j 2 c.loop-j-test.true in
    let e = region-columns nan _ (omega arith) _ _ 2 _ _ _ _ (omega arith) (omega (arith, room)) c.loop-j.invariant.1 (columns_of _ _ _ _ _ _ _ _ _ (omega arith) c.two.ensures) in
    (omega arith, e)

pub returns : goal.returns
returns c =
    let h : c.loop-j.j < c.args.area.cols = omega arith in
    let e : c.loop-j.j + 1 ≡ c.args.area.cols = omega arith in
    rw e at (region-column nan _ (omega arith) _ _ _ _ _ _ (omega arith) (omega (arith, column-room c.args.area.ld h)) c.loop-j.invariant.1 (column-of _ _ _ _ _ _ _ c.column.ensures))
