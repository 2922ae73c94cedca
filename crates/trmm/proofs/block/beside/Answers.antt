-- `block::beside` adds the terms beside the block, on either side.
use mathlib.Core.Path.{refl}
use native.Mathlib.Nat.{zero-add}
use native.Mathlib.Omega.{arith}
use Rattle.lines.proofs.TermLaws.{inside-from}
use Rattle.trmm.proofs.BlockLaws.{none_beside, left-inside, right-inside, left-beside, right-beside}
use Rattle.trmm.proofs.block.beside.Goals as goal

pub returns-then-count-eq0 : goal.returns-then-count-eq0
returns-then-count-eq0 c = none_beside _ _ _ _ _ _ (omega arith)

pub multiply-requires-clause-by_index : goal.multiply-requires-clause-by_index
multiply-requires-clause-by_index c =
    let args = c.args in
    let p = c.requires.n_nonzero in (
      (λ i l hi hl. rw zero-add (inside-from args.a.t args.a.cells.now _ _ _ _ c.op_form-f.ensures c.place-from.ensures i l (c.requires.by_index _ _ (omega arith) (omega arith)))),
      left-inside args.b.now args.g.ld args.g.m args.g.lines args.lo args.count (rw c.if-g.true at c.requires.room) p.3,
    )

pub returns-then-g : goal.returns-then-g
returns-then-g c =
    let args = c.args in
    rw c.if-g.true (left-beside args.alpha args.a.t args.a.cells.now args.a.ld args.b.now args.g.ld args.g.lines args.p0 args.n args.lo args.count _ _ _ c.op_form-f.ensures c.place-from.ensures c.multiply.ensures)

pub multiply-requires-2-clause-by_index : goal.multiply-requires-2-clause-by_index
multiply-requires-2-clause-by_index c =
    let args = c.args in
    let p = c.requires.n_nonzero in (
      right-inside args.b.now args.g.ld args.g.m args.g.lines args.lo args.count _ refl (rw c.if-g.false at c.requires.room) p.3,
      (λ l j hl hj. rw zero-add (inside-from args.a.t args.a.cells.now _ _ _ _ c.op_form-f.ensures c.place-from-2.ensures l j (c.requires.by_index _ _ (omega arith) (omega arith)))),
    )

pub returns : goal.returns
returns c =
    let args = c.args in
    rw c.if-g.false (right-beside args.alpha args.a.t args.a.cells.now args.a.ld args.b.now args.g.ld args.g.lines args.p0 args.n args.lo args.count _ _ _ c.op_form-f.ensures _ refl c.place-from-2.ensures c.multiply-2.ensures)
