-- `lines::add_terms` adds the terms of the elements in x, on either side.
use Prim.Native.Nat.{◌<◌}
use mathlib.Core.Path.{refl}
use native.Mathlib.Nat.{zero-add}
use native.Mathlib.Omega.{arith}
use lib.ListN.{length}
use Rattle.arrays.proofs.PartLaws.{tail-length, column-room, columns-room}
use Rattle.lines.proofs.TermLaws.{left-added, right-added, first-inside, inside-from, held-left-inside, held-right-inside}
use Rattle.lines.proofs.add_terms.Goals as goal
use Rattle.lines.proofs.add_terms.Goals.{After-place-from-2}

pub multiply-requires-clause-by_index : goal.multiply-requires-clause-by_index
multiply-requires-clause-by_index c =
    let inside = rw c.if-g.true at c.requires.by_index in (
      (λ i l hi hl. rw zero-add (inside-from c.args.a.t c.args.a.cells.now _ _ _ _ c.op_form-f.ensures c.place-from.ensures i l (inside i l hi hl))),
      held-left-inside _ _ _ (omega (arith, c.requires.n_nonzero)) (omega (arith, c.requires.n_nonzero)) (omega (arith, c.requires.n_nonzero)),
    )

pub returns-then-g : goal.returns-then-g
returns-then-g c =
    let p = c.args in
    let room = rw c.if-g.true at c.requires.room in
    rw c.if-g.true (left-added p.alpha p.a.t p.a.cells.now p.a.ld p.x0 p.n p.x.now p.down p.y c.place-from.result c.op_form-f.ensures
    p.g.ld p.g.m p.g.lines p.h p.b.now _ (omega (arith, room, c.requires.n_nonzero)) (omega (arith, c.requires.n_nonzero)) c.place-from.ensures room.0 room.1
    (omega (arith, room, column-room p.g.ld c.requires.n_nonzero.4, c.requires.n_nonzero))
    c.multiply.ensures)

-- side R: the first entry of op(A) that is read is within the array
first : (c : After-place-from-2) → c.place-from-2.result < length c.args.a.cells.now
first c =
    let inside = rw c.if-g.false at c.requires.by_index in
    rw c.place-from-2.ensures (first-inside c.args.a.t c.args.a.ld c.args.x0 c.args.y _ c.op_form-f.ensures (inside 0 0 (omega (arith, c.requires.n_nonzero)) (omega (arith, c.requires.n_nonzero))))

pub offset_bounds-a-from-2 : goal.offset_bounds-a-from-2
offset_bounds-a-from-2 c = omega (arith, first (goal.at.offset_bounds-a-from-2 c).After-place-from-2)

pub slice_bounds-entries-count-2 : goal.slice_bounds-entries-count-2
slice_bounds-entries-count-2 c = omega (arith, first (goal.at.slice_bounds-entries-count-2 c).After-place-from-2)

pub slice_bounds-entries-start-2 : goal.slice_bounds-entries-start-2
slice_bounds-entries-start-2 c = omega (arith, first (goal.at.slice_bounds-entries-start-2 c).After-place-from-2)

pub multiply-requires-2-clause-room : goal.multiply-requires-2-clause-room
multiply-requires-2-clause-room c =
    let room = rw c.if-g.false at c.requires.room in
    simp tail-length (omega (arith, room, columns-room c.args.g.ld c.args.y c.args.h c.requires.n_nonzero.6, column-room c.args.g.ld c.requires.n_nonzero.2, c.requires.n_nonzero, c.requires.n_nonzero.3 c.if-g.false))

pub multiply-requires-2-clause-by_index : goal.multiply-requires-2-clause-by_index
multiply-requires-2-clause-by_index c =
    let inside = rw c.if-g.false at c.requires.by_index in (
      held-right-inside _ _ _ (omega (arith, c.requires.n_nonzero)) (omega (arith, c.requires.n_nonzero)) (omega (arith, c.requires.n_nonzero)),
      (λ l j hl hj. rw zero-add (inside-from c.args.a.t c.args.a.cells.now _ _ _ _ c.op_form-f.ensures c.place-from-2.ensures l j (inside j l hj hl))),
    )

pub returns : goal.returns
returns c =
    let p = c.args in
    let room = rw c.if-g.false at c.requires.room in
    rw c.if-g.false (right-added p.alpha p.a.t p.a.cells.now p.a.ld p.x0 p.n p.x.now p.down p.y c.place-from-2.result c.op_form-f.ensures
    p.g.ld p.g.m p.g.lines p.h p.b.now _ (omega (arith, room, c.requires.n_nonzero)) (omega (arith, c.requires.n_nonzero)) _ refl c.place-from-2.ensures room.0 room.1
    (omega (arith, room, columns-room p.g.ld p.y p.h c.requires.n_nonzero.6, column-room p.g.ld c.requires.n_nonzero.2, c.requires.n_nonzero))
    c.multiply-2.ensures)
