-- `block::sums` meets its contract: the diagonal block and the terms beside it, in the order of the terms.
use Prim.Native.Nat.{◌+◌, ◌-◌}
use mathlib.Core.Path.{refl}
use Rattle.forms.specs.Forms.{op_matrix}
use Rattle.trmm.proofs.BlockLaws.{sums-after, sums-before}
use native.Mathlib.Omega.{arith}
use Rattle.trmm.proofs.block.sums.Goals as goal

pub returns-then-by : goal.returns-then-by
returns-then-by c = let args = c.args in
    sums-after args.g.left args.by.after args.by.alpha args.by.diag (op_matrix args.by.a) args.g.ld args.g.m args.g.lines args.p0 args.n args.b.now (args.g.m - (args.p0 + args.n)) _ _ _ _ (omega (arith, c.requires.n_nonzero)) refl c.if-by.true c.diagonal.ensures c.beside.ensures

pub returns : goal.returns
returns c = let args = c.args in
    sums-before args.g.left args.by.after args.by.alpha args.by.diag (op_matrix args.by.a) args.g.ld args.g.m args.g.lines args.p0 args.n args.b.now (args.g.m - (args.p0 + args.n)) _ _ _ (omega (arith, c.requires.n_nonzero)) c.if-by.false c.beside-2.ensures c.diagonal-2.ensures
