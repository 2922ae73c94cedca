-- `block::block` meets its contract, whether the block is alone or not: the sums start from +0.0.
use mathlib.Core.Bool.{false}
use Prim.Native.Nat.{◌<◌}
use lib.ListN.{length}
use lib.Ieee.{of_bits}
use Rattle.lines.proofs.GridLaws.{some-ld}
use Rattle.forms.specs.Forms.{op_matrix}
use Rattle.trmm.proofs.BlockLaws.{sums-alone, block_made}
use native.Mathlib.Omega.{arith}
use Rattle.trmm.proofs.block.block.Goals as goal
use Rattle.trmm.proofs.block.block.Goals.{Start}

wide : (c : Start) → 0 < c.args.g.ld
wide c =
    let args = c.args in some-ld args.g.left args.g.ld args.g.m args.g.lines (length args.b.now) (omega (arith, c.requires.n_nonzero)) (omega (arith, c.requires.n_nonzero)) c.requires.room

pub returns-then-is_alone : goal.returns-then-is_alone
unfolding of_bits
returns-then-is_alone c = let args = c.args in
    let p = c.requires.n_nonzero in
    block_made args.g.left args.by.after args.by.alpha args.by.diag (op_matrix args.by.a) args.g.ld args.g.m args.g.lines args.p0 args.n args.b.now false _ _ (wide (goal.at.returns-then-is_alone c).Start) p.1 p.4 p.0 p.3
    (sums-alone args.g.left args.by.after args.by.alpha args.by.diag (op_matrix args.by.a) args.g.ld args.g.m args.g.lines args.p0 args.n args.b.now _ _ p.2 (c.is_alone.ensures c.if-is_alone.true) c.across.ensures)
    c.put.ensures

pub returns : goal.returns
unfolding of_bits
returns c = let args = c.args in
    let p = c.requires.n_nonzero in
    block_made args.g.left args.by.after args.by.alpha args.by.diag (op_matrix args.by.a) args.g.ld args.g.m args.g.lines args.p0 args.n args.b.now args.g.left _ _ (wide (goal.at.returns c).Start) p.1 p.4 p.0 p.3 c.sums.ensures c.put-2.ensures
