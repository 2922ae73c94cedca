-- `sum_elements` meets its contract: the first k elements that are done have their sums, the others are as at entry.
use mathlib.Core.Path.{◌≡◌}
use lib.ListN.{length}
use Rattle.lines.proofs.GridLaws.{some-ld}
use Rattle.trmm_diagonal.proofs.DoneLaws.{none_done, all_done}
use Rattle.trmm.proofs.OrderLaws.{block-done}
use native.Mathlib.Omega.{arith}
use Rattle.trmm.proofs.sum_elements.Goals as goal

pub loop-k-init : goal.loop-k-init
loop-k-init c = none_done _ _ _ _ _ _ _

pub loop-k-preserved : goal.loop-k-preserved
loop-k-preserved c = let args = c.args in
    let pos = some-ld args.g.left args.g.ld args.g.m args.g.lines (length args.b.now) (omega (arith, c.requires.m_nonzero)) (omega (arith, c.requires.m_nonzero)) c.requires.room in
    block-done _ args.by.after _ _ _ _ _ _ _ _ args.b.now _ _ pos c.requires.room c.next_block-i.ensures.0 c.loop-k.invariant c.sum_element.ensures

pub returns : goal.returns
returns c = let args = c.args in
    let e : c.loop-k.k ≡ args.g.m = omega arith in
    all_done _ _ _ _ _ _ _ _ (some-ld args.g.left args.g.ld args.g.m args.g.lines (length args.b.now) (omega (arith, c.requires.m_nonzero)) (omega (arith, c.requires.m_nonzero)) c.requires.room) (rw e at c.loop-k.invariant)
