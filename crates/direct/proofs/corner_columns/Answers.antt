-- `direct::corner_columns` meets its contract: the columns below j are done.
use Prim.Native.Nat.{ℕ, ◌≤◌, ◌<◌, ◌+◌, ◌*◌}
use mathlib.Core.Bool.{false}
use mathlib.Core.Path.{◌≡◌, refl, sym}
use native.Mathlib.Nat.{zero-add, add-mul}
use native.Mathlib.Omega.{arith}
use lib.Ieee.{nan}
use lib.ListN.{length}
use Rattle.arrays.proofs.PartLaws.{tail-length, column-room}
use Rattle.direct.specs.Product.{strided, product}
use Rattle.direct.proofs.DirectLaws.{one-column-of}
use Rattle.arrays.proofs.TrapezoidLaws.{Inside, rows-room, rows-some, none_yet, column-more}
use Rattle.direct.proofs.corner_columns.Goals as goal
use Rattle.direct.proofs.corner_columns.Goals.{After-pick-rows}

-- in a turn: the rows are those of the triangle
inside : (c : After-pick-rows) → Inside c.args.lower c.args.order c.loop-j.j c.pick-first.result c.pick-rows.result
inside c =
    (c.pick-first.ensures, c.pick-rows.ensures)

-- and they are within the block, the column within c, and the factors' parts within their arrays
record Turn (order j first rows ld lc lefts la rights lb : ℕ) : Type 0 where
  some : 0 < rows
  within : first + rows ≤ order
  column : j * ld + ld ≤ order * ld
  room : order * ld + order ≤ lc + ld
  left : lefts < la
  right : rights < lb

turn : (c : After-pick-rows) → Turn c.args.order c.loop-j.j c.pick-first.result c.pick-rows.result c.args.ld (length c.args.c.now) (c.pick-first.result * c.args.a.row) (length c.args.a.cells.now) (c.loop-j.j * c.args.b.column) (length c.args.b.cells.now)
turn c =
    let inside : Inside c.args.lower c.args.order c.loop-j.j c.pick-first.result c.pick-rows.result = (c.pick-first.ensures, c.pick-rows.ensures) in
    let some = rows-some c.args.lower _ _ _ _ inside c.loop-j-test.true in
    let within = rows-room c.args.lower _ _ _ _ inside c.loop-j-test.true in
    record {
      some = some;
      within = within;
      column = column-room _ c.loop-j-test.true;
      room = omega arith;
      left = omega (arith, c.requires.by_index.0 c.pick-first.result 0 (omega arith) (omega arith));
      right = omega (arith, c.requires.by_index.1 0 c.loop-j.j (omega arith) c.loop-j-test.true);
    }

pub loop-j-init : goal.loop-j-init
loop-j-init c = none_yet _ _ _ _ _ _

pub overflow_mul-x : goal.overflow_mul-x
overflow_mul-x c = omega (arith, turn (goal.at.overflow_mul-x c).After-pick-rows)

pub offset_bounds-a-x : goal.offset_bounds-a-x
offset_bounds-a-x c = omega (arith, turn (goal.at.offset_bounds-a-x c).After-pick-rows)

pub slice_bounds-columns-count-in-loop-j : goal.slice_bounds-columns-count-in-loop-j
slice_bounds-columns-count-in-loop-j c = omega (arith, turn (goal.at.slice_bounds-columns-count-in-loop-j c).After-pick-rows)

pub slice_bounds-columns-start-in-loop-j : goal.slice_bounds-columns-start-in-loop-j
slice_bounds-columns-start-in-loop-j c = omega (arith, turn (goal.at.slice_bounds-columns-start-in-loop-j c).After-pick-rows)

pub offset_bounds-b-y : goal.offset_bounds-b-y
offset_bounds-b-y c = omega (arith, turn (goal.at.offset_bounds-b-y c).After-pick-rows)

pub slice_bounds-columns-count-in-loop-j-2 : goal.slice_bounds-columns-count-in-loop-j-2
slice_bounds-columns-count-in-loop-j-2 c = omega (arith, turn (goal.at.slice_bounds-columns-count-in-loop-j-2 c).After-pick-rows)

pub slice_bounds-columns-start-in-loop-j-2 : goal.slice_bounds-columns-start-in-loop-j-2
slice_bounds-columns-start-in-loop-j-2 c = omega (arith, turn (goal.at.slice_bounds-columns-start-in-loop-j-2 c).After-pick-rows)

pub columns-requires : goal.columns-requires
columns-requires c =
    let t = turn (goal.at.columns-requires c).After-pick-rows in record {
      rows_nonzero = simp tail-length (omega (arith, t));
      by_index = (
        (λ i l hi hl. simp tail-length (omega (arith, c.requires.by_index.0 (c.pick-first.result + i) l (omega (arith, t)) hl, add-mul c.pick-first.result i c.args.a.row))),
        (λ l j hl hj. let z : j ≡ 0 = omega arith in rw z (simp tail-length (omega (arith, c.requires.by_index.1 l c.loop-j.j hl c.loop-j-test.true)))),
      );
    }

pub loop-j-preserved : goal.loop-j-preserved
loop-j-preserved c =
    let fits = turn (goal.at.loop-j-preserved c).After-pick-rows in
    column-more 0 _ c.loop-j.j c.loop-j.j c.pick-first.result c.pick-rows.result (sym (zero-add c.loop-j.j)) c.loop-j-test.true nan c.args.lower (product c.args.alpha (strided c.args.a.cells.now c.args.a.row c.args.a.column) (strided c.args.b.cells.now c.args.b.row c.args.b.column) false c.args.k) _ _ _ _ _ _ (inside (goal.at.loop-j-preserved c).After-pick-rows) (omega arith) (omega arith) refl (omega arith) c.loop-j.invariant
    (one-column-of c.args.alpha c.args.a.cells.now c.args.a.row c.args.a.column c.args.b.cells.now c.args.b.row c.args.b.column false c.args.k c.args.ld c.pick-rows.result c.pick-first.result c.loop-j.j _ _ (omega arith) (omega arith) c.columns.ensures) (λ i x. refl)
