-- `triangle::by_columns` meets its contract: the rows below k of the buffer are done.
use Prim.Native.Nat.{◌+◌, ◌-◌, ◌*◌, ◌≤◌}
use mathlib.Core.Path.{refl}
use lib.ListN.{length}
use Rattle.arrays.proofs.PartLaws.{tail-length}
use Rattle.lines.proofs.TriangleLaws.{run_room, row_more}
use native.Mathlib.Omega.{arith}
use Rattle.lines.proofs.triangle.by_columns.Goals as goal
use Rattle.lines.proofs.triangle.by_columns.Goals.{After-pick-count}

-- the entries that are copied are entries of the block
room : (c : After-pick-count) → c.pick-lo.result + c.pick-count.result ≤ c.args.n
room c =
    run_room c.args.after c.args.n c.loop-k.k _ _ c.pick-lo.ensures c.pick-count.ensures (omega arith)

-- and within the array
inside : (c : After-pick-count) → (c.args.x0 + c.loop-k.k) * c.args.lda + (c.args.x0 + (c.pick-lo.result + c.pick-count.result)) ≤ length c.args.a.now
inside c = omega (arith, room c, c.requires.3 c.loop-k.k (c.args.n - 1) (omega arith) (omega arith))

pub in_row-requires : goal.in_row-requires
in_row-requires c = simp tail-length (omega (arith, room (goal.at.in_row-requires c).After-pick-count, inside (goal.at.in_row-requires c).After-pick-count))

pub loop-k-preserved : goal.loop-k-preserved
loop-k-preserved c =
    let g = c.args in
    row_more g.after g.down g.a.now g.lda g.x0 g.n c.loop-k.k _ _ _ (omega arith) (omega arith) refl c.pick-lo.ensures c.pick-count.ensures _ c.loop-k.v _ refl (omega arith) c.loop-k.invariant c.in_row.ensures
