-- `block::column` meets its contract: the terms below q are done, eight in a turn.
use Prim.Native.Nat.{◌-◌, ◌+◌}
use mathlib.Core.Path.{◌≡◌}
use native.Mathlib.Omega.{arith}
use Rattle.blocks.proofs.TermLaws.{column-none, column-more}
use Rattle.blocks.proofs.block.column.Goals as goal

pub loop-q-init : goal.loop-q-init
loop-q-init c = (omega arith, column-none _ _ _ _)

pub loop-q-preserved : goal.loop-q-preserved
loop-q-preserved c = (omega arith, column-more _ _ _ _ _ _ _ _ c.loop-q.invariant.1 c.axpy8.ensures.1)

pub returns : goal.returns
returns c =
    let e : c.loop-q.q + (c.args.terms - c.loop-q.q) ≡ c.args.terms = omega arith in
    rw e at (column-more _ _ _ _ _ _ _ _ c.loop-q.invariant.1 c.column_fours.ensures)
