-- `pack::plain` meets its contract: the lines below x are done.
use Prim.Native.Nat.{◌+◌, ◌*◌}
use native.Mathlib.Omega.{arith}
use lib.Ieee.{nan}
use lib.ListN.{length}
use Rattle.arrays.proofs.PartLaws.{tail-length}
use Rattle.arrays.proofs.RegionLaws.{region-no-columns, region-column}
use Rattle.packing.specs.Factor.{Within}
use Rattle.packing.proofs.FactorLaws.{within-after, within_first}
use Rattle.packing.proofs.PackLaws.{one_line}
use Rattle.packing.proofs.pack.plain.Goals as goal
use Rattle.packing.proofs.pack.plain.Goals.{After-index-column}

-- the run that is copied is within the array
room : (c : After-index-column) → Within c.args.i.down (c.index-column.result * c.args.a.ld + c.args.i.from) c.args.ny (length c.args.a.cells.now)
room c = within-after (c.index-column.result * c.args.a.ld) _ (omega arith) c.requires.3 (λ y h. rw c.index-column.ensures (c.requires.5 y c.loop-x.x h c.loop-x-test.true))

pub loop-x-init : goal.loop-x-init
loop-x-init c = region-no-columns _ _ _ _

pub overflow_add-from : goal.overflow_add-from
overflow_add-from c = omega (arith, within_first _ (omega arith) (room (goal.at.overflow_add-from c).After-index-column))

pub copy_from-requires : goal.copy_from-requires
copy_from-requires c = (simp tail-length (omega arith), room (goal.at.copy_from-requires c).After-index-column)

pub loop-x-preserved : goal.loop-x-preserved
loop-x-preserved c =
    region-column nan 64 (omega arith) _ _ _ _ _ _ (omega arith) (omega arith) c.loop-x.invariant
    (one_line c.args.a.cells.now c.args.i.down c.args.a.ld c.args.i.from c.args.ny _ _ _ _ c.requires.3 c.index-column.ensures c.copy_from.ensures)
