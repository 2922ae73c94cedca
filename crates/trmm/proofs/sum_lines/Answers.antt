-- `sum_lines` meets its contract: the elements of the pieces that are done have their sums, the others are as at entry.
use Prim.Native.Nat.{◌<◌}
use mathlib.Core.Path.{sym, ◌∙◌}
use lib.ListN.{length}
use Rattle.arrays.proofs.PieceLaws.{turn, last}
use Rattle.lines.proofs.GridLaws.{some-ld}
use Rattle.trmm_diagonal.proofs.DoneLaws.{none_done, all_done}
use Rattle.trmm.proofs.OrderLaws.{block-done}
use native.Mathlib.Omega.{arith}
use Rattle.trmm.proofs.sum_lines.Goals as goal
use Rattle.trmm.proofs.sum_lines.Goals.{Start}

wide : (c : Start) → 0 < c.args.g.ld
wide c =
    let g = c.args.g in some-ld g.left g.ld g.m g.lines (length c.args.b.now) (omega (arith, c.requires.m_nonzero)) (omega (arith, c.requires.m_nonzero)) c.requires.room

pub loop-k-init : goal.loop-k-init
loop-k-init c = rw c.into_iter-k-iterator.ensures.into_iter_gives (omega (arith, c.requires.m_nonzero), tt, c.of-k-items.ensures.1, c.of-k-items.ensures.2, rw c.of-k-items.ensures.0 (none_done _ _ _ _ _ _ _))

pub next_block-p0-requires : goal.next_block-p0-requires
next_block-p0-requires c = let t = turn c.next.ensures.steps c.in-Some.is in omega arith

pub block-requires-clause-n_nonzero : goal.block-requires-clause-n_nonzero
block-requires-clause-n_nonzero c = let t = turn c.next.ensures.steps c.in-Some.is in omega (arith, c.requires.m_nonzero)

pub loop-k-preserved : goal.loop-k-preserved
loop-k-preserved c =
    let t = turn c.next.ensures.steps c.in-Some.is in (
      omega arith,
      tt,
      omega arith,
      omega arith,
      rw t.next
          (block-done _ c.args.by.after _ _ _ _ _ _ _ _ c.args.b.now _ _ (wide (goal.at.loop-k-preserved c).Start) c.requires.room c.next_block-p0.ensures.0 (rw (sym t.first) at c.loop-k.invariant.4) c.block.ensures),
    )

pub returns : goal.returns
returns c = let all = last c.next.ensures.steps c.in-None.is ∙ c.loop-k.invariant.2 in all_done _ _ _ _ _ _ _ _ (wide (goal.at.returns c).Start) (rw all at c.loop-k.invariant.4)
