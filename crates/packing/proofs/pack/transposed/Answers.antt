-- `pack::transposed` meets its contract: the elements below y of each line are done.
use Prim.Native.Nat.{◌+◌, ◌*◌}
use native.Mathlib.Omega.{arith}
use lib.Ieee.{nan}
use lib.ListN.{length}
use Rattle.arrays.proofs.PartLaws.{tail-length}
use Rattle.arrays.proofs.RegionLaws.{region-no-rows, region-rows}
use Rattle.packing.specs.Factor.{Within, along}
use Rattle.floats.specs.Array.{at}
use Rattle.packing.proofs.FactorLaws.{within-after, within_first}
use Rattle.packing.proofs.PackLaws.{one-row}
use Rattle.packing.proofs.pack.transposed.Goals as goal
use Rattle.packing.proofs.pack.transposed.Goals.{After-index-column}

-- the run that is spread is within the array
room : (c : After-index-column) → Within c.args.j.down (c.index-column.result * c.args.a.ld + c.args.j.from) c.args.nx (length c.args.a.cells.now)
room c = within-after (c.index-column.result * c.args.a.ld) _ (omega arith) c.requires.4 (λ x h. rw c.index-column.ensures (c.requires.5 c.loop-y.y x c.loop-y-test.true h))

pub loop-y-init : goal.loop-y-init
loop-y-init c = region-no-rows _ _ _ _

pub overflow_add-from : goal.overflow_add-from
overflow_add-from c = omega (arith, within_first _ (omega arith) (room (goal.at.overflow_add-from c).After-index-column))

pub spread_from-requires : goal.spread_from-requires
spread_from-requires c = (simp tail-length (omega arith), room (goal.at.spread_from-requires c).After-index-column)

pub loop-y-preserved : goal.loop-y-preserved
loop-y-preserved c =
    region-rows nan 64 (omega arith) _ 1 _ (λ y x _. at c.args.a.cells.now (along c.args.i.down c.args.i.from y * c.args.a.ld + along c.args.j.down c.args.j.from x)) _ _ _ (omega arith) (omega arith) c.loop-y.invariant
    (one-row c.args.a.cells.now c.args.i.down c.args.j.down c.args.i.from c.loop-y.y c.args.a.ld c.args.j.from c.args.nx _ _ _ c.requires.4 c.index-column.ensures c.spread_from.ensures)
