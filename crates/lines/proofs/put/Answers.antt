-- `lines::put` copies elements to their lines, on either side and from lines of either side.
use mathlib.Core.Path.{refl, ap, ◌∙◌}
use Rattle.arrays.proofs.PartLaws.{tail-length, column-room, columns-room}
use Rattle.packing.proofs.FactorLaws.{upward}
use Rattle.lines.specs.Lines.{line_form}
use Rattle.lines.proofs.TakeLaws.{buffer-room, left-inside, right-inside, put-left, put_right}
use native.Mathlib.Omega.{arith}
use Rattle.lines.proofs.put.Goals as goal

pub lines-requires : goal.lines-requires
lines-requires c =
    let room = rw c.if-g.true at c.requires.room in
    let rows = column-room c.args.g.ld c.requires.n_nonzero.2 in (
      omega (arith, room, c.requires.n_nonzero),
      omega (arith, room, c.requires.n_nonzero),
      simp tail-length (omega (arith, room, rows, c.requires.n_nonzero)),
      upward _ _ (omega (arith, c.requires.n_nonzero)),
      upward _ _ (omega (arith, c.requires.n_nonzero)),
      λ q l hq hl. left-inside c.args.side (c.line_form-f.ensures ∙ ap (line_form c.args.side) c.if-g.true) 64 64 64 _ 0 q l (omega (arith, c.requires.n_nonzero)) (omega (arith, c.requires.n_nonzero)) (buffer-room c.args.side _ c.requires.n_nonzero.5),
    )

pub returns-then-g : goal.returns-then-g
returns-then-g c =
    let p = c.args in
    let room = rw c.if-g.true at c.requires.room in
    let rows = column-room p.g.ld c.requires.n_nonzero.2 in
    rw c.if-g.true (put-left p.side (c.line_form-f.ensures ∙ ap (line_form p.side) c.if-g.true) p.g.ld p.g.m p.g.lines p.x0 p.n p.x.now p.b.now _ (omega (arith, room, c.requires.n_nonzero)) room c.requires.n_nonzero.4 (omega (arith, room, rows, c.requires.n_nonzero)) c.lines.ensures)

pub lines-requires-2 : goal.lines-requires-2
lines-requires-2 c =
    let room = rw c.if-g.false at c.requires.room in
    let before = columns-room c.args.g.ld c.args.x0 c.args.n c.requires.n_nonzero.4 in
    let first = column-room c.args.g.ld c.requires.n_nonzero.0 in (
      omega (arith, room, c.requires.n_nonzero),
      omega (arith, room, c.requires.n_nonzero),
      simp tail-length (omega (arith, room, before, first, c.requires.n_nonzero)),
      upward _ _ (omega (arith, c.requires.n_nonzero)),
      upward _ _ (omega (arith, c.requires.n_nonzero)),
      λ l q hl hq. right-inside c.args.side (c.line_form-f.ensures ∙ ap (line_form c.args.side) c.if-g.false) 64 64 64 _ 0 q l (omega (arith, c.requires.n_nonzero)) (omega (arith, c.requires.n_nonzero)) (buffer-room c.args.side _ c.requires.n_nonzero.5),
    )

pub returns : goal.returns
returns c =
    let p = c.args in
    let room = rw c.if-g.false at c.requires.room in
    let before = columns-room p.g.ld p.x0 p.n c.requires.n_nonzero.4 in
    let first = column-room p.g.ld c.requires.n_nonzero.0 in
    rw c.if-g.false (put_right p.side (c.line_form-f.ensures ∙ ap (line_form p.side) c.if-g.false) p.g.ld p.g.m p.g.lines p.x0 p.n _ p.x.now p.b.now _ (omega (arith, room, c.requires.n_nonzero)) room c.requires.n_nonzero.4 refl (omega (arith, room, before, first, c.requires.n_nonzero)) c.lines-2.ensures)
