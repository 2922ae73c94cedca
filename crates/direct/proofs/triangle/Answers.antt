-- `direct::triangle` meets its contract: the strides are those of the forms.
use Prim.Native.Nat.{ℕ, ◌+◌, ◌*◌, ◌<◌}
use lib.ListN.{length}
use native.Mathlib.Omega.{arith}
use Rattle.arrays.proofs.PartLaws.{tail-length}
use Rattle.direct.proofs.DirectLaws.{left-room, right-room, left-entry, right-entry, same-product, masked-none}
use Rattle.direct.specs.Product.{product}
use Rattle.arrays.proofs.TrapezoidLaws.{within}
use Rattle.direct.proofs.triangle.Goals as goal
use Rattle.direct.proofs.triangle.Goals.{After-column_stride-cb}

-- the places that are read are within the arrays
left : (c : After-column_stride-cb) → (i l : ℕ) → i < c.args.order → l < c.args.p.terms → c.args.i0 * c.row_stride-ra.result + (i * c.row_stride-ra.result + l * c.column_stride-ca.result) < length c.args.p.left.cells.now
left c i l hi hl =
    left-room c.args.p.left.form c.args.p.left.ld c.args.i0 i l c.requires.order_bound.2 c.row_stride-ra.ensures c.column_stride-ca.ensures (c.requires.by_index.0 i l hi hl)

right : (c : After-column_stride-cb) → (l j : ℕ) → l < c.args.p.terms → j < c.args.order → c.args.j0 * c.column_stride-cb.result + (l * c.row_stride-rb.result + j * c.column_stride-cb.result) < length c.args.p.right.cells.now
right c l j hl hj =
    right-room c.args.p.right.form c.args.p.right.ld c.args.j0 l j c.requires.order_bound.3 c.row_stride-rb.ensures c.column_stride-cb.ensures (c.requires.by_index.1 l j hl hj)

-- the first of them
record First (x la y lb : ℕ) : Type 0 where
  left : x < la
  right : y < lb

first : (c : After-column_stride-cb) → First (c.args.i0 * c.row_stride-ra.result) (length c.args.p.left.cells.now) (c.args.j0 * c.column_stride-cb.result) (length c.args.p.right.cells.now)
first c =
    let left : (i l : ℕ) → i < c.args.order → l < c.args.p.terms → c.args.i0 * c.row_stride-ra.result + (i * c.row_stride-ra.result + l * c.column_stride-ca.result) < length c.args.p.left.cells.now = λ i l hi hl. left-room c.args.p.left.form c.args.p.left.ld c.args.i0 i l c.requires.order_bound.2 c.row_stride-ra.ensures c.column_stride-ca.ensures (c.requires.by_index.0 i l hi hl) in
    let right : (l j : ℕ) → l < c.args.p.terms → j < c.args.order → c.args.j0 * c.column_stride-cb.result + (l * c.row_stride-rb.result + j * c.column_stride-cb.result) < length c.args.p.right.cells.now = λ l j hl hj. right-room c.args.p.right.form c.args.p.right.ld c.args.j0 l j c.requires.order_bound.3 c.row_stride-rb.ensures c.column_stride-cb.ensures (c.requires.by_index.1 l j hl hj) in
    record { left = omega (arith, left 0 0 (omega arith) (omega arith)); right = omega (arith, right 0 0 (omega arith) (omega arith)) }

pub returns-then-p-eq0 : goal.returns-then-p-eq0
unfolding product
returns-then-p-eq0 c = rw c.if-p-eq0.true (masked-none _ _ _ _ _ _ _ _)

pub overflow_mul-x : goal.overflow_mul-x
overflow_mul-x c = omega (arith, first (goal.at.overflow_mul-x c).After-column_stride-cb)

pub overflow_mul-y : goal.overflow_mul-y
overflow_mul-y c = omega (arith, first (goal.at.overflow_mul-y c).After-column_stride-cb)

pub offset_bounds-p-x : goal.offset_bounds-p-x
offset_bounds-p-x c = omega (arith, first (goal.at.offset_bounds-p-x c).After-column_stride-cb)

pub slice_bounds-corner_columns-count : goal.slice_bounds-corner_columns-count
slice_bounds-corner_columns-count c = omega (arith, first (goal.at.slice_bounds-corner_columns-count c).After-column_stride-cb)

pub slice_bounds-corner_columns-start : goal.slice_bounds-corner_columns-start
slice_bounds-corner_columns-start c = omega (arith, first (goal.at.slice_bounds-corner_columns-start c).After-column_stride-cb)

pub offset_bounds-p-y : goal.offset_bounds-p-y
offset_bounds-p-y c = omega (arith, first (goal.at.offset_bounds-p-y c).After-column_stride-cb)

pub slice_bounds-corner_columns-count-2 : goal.slice_bounds-corner_columns-count-2
slice_bounds-corner_columns-count-2 c = omega (arith, first (goal.at.slice_bounds-corner_columns-count-2 c).After-column_stride-cb)

pub slice_bounds-corner_columns-start-2 : goal.slice_bounds-corner_columns-start-2
slice_bounds-corner_columns-start-2 c = omega (arith, first (goal.at.slice_bounds-corner_columns-start-2 c).After-column_stride-cb)

pub corner_columns-requires : goal.corner_columns-requires
corner_columns-requires c = record {
  order_nonzero = omega arith;
  by_index = (
    (λ i l hi hl. simp tail-length (omega (arith, left (goal.at.corner_columns-requires c).After-column_stride-cb i l hi hl))),
    (λ l j hl hj. simp tail-length (omega (arith, right (goal.at.corner_columns-requires c).After-column_stride-cb l j hl hj))),
  );
}

pub returns : goal.returns
returns c =
    same-product _ _ _ _ _ _ _ _ _ _ _ _ _ (omega arith) (λ i j h. let w = within 0 _ _ i j c.args.lower h in (w.row, w.column))
    (λ i l hi hl. left-entry c.args.p.left.form _ c.args.p.left.ld c.args.i0 i l c.requires.order_bound.2 c.row_stride-ra.ensures c.column_stride-ca.ensures)
    (λ l j hl hj. right-entry c.args.p.right.form _ c.args.p.right.ld c.args.j0 l j c.requires.order_bound.3 c.row_stride-rb.ensures c.column_stride-cb.ensures)
    c.corner_columns.ensures
