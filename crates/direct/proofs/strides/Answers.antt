-- `direct::strides` meets its contract: the strides are those of the forms.
use Rattle.arrays.proofs.TrapezoidLaws.{is-box}
use Rattle.direct.proofs.DirectLaws.{left-room, right-room, left-entry, right-entry, same-product}
use Rattle.arrays.specs.Update.{region}
use Rattle.arrays.proofs.PartLaws.{tail-length}
use native.Mathlib.Omega.{arith}
use Rattle.direct.proofs.strides.Goals as goal

pub overflow_mul-x : goal.overflow_mul-x
overflow_mul-x c = omega (arith, left-room c.args.p.left.form c.args.p.left.ld c.args.i0 0 0 c.requires.rows_bound.2 c.row_stride-ra.ensures c.column_stride-ca.ensures (c.requires.by_index.0 0 0 (omega arith) (omega arith)))

pub overflow_mul-y : goal.overflow_mul-y
overflow_mul-y c = omega (arith, right-room c.args.p.right.form c.args.p.right.ld c.args.j0 0 0 c.requires.rows_bound.3 c.row_stride-rb.ensures c.column_stride-cb.ensures (c.requires.by_index.1 0 0 (omega arith) (omega arith)))

pub offset_bounds-p-x : goal.offset_bounds-p-x
offset_bounds-p-x c = omega (arith, left-room c.args.p.left.form c.args.p.left.ld c.args.i0 0 0 c.requires.rows_bound.2 c.row_stride-ra.ensures c.column_stride-ca.ensures (c.requires.by_index.0 0 0 (omega arith) (omega arith)))

pub slice_bounds-columns-count : goal.slice_bounds-columns-count
slice_bounds-columns-count c = omega (arith, left-room c.args.p.left.form c.args.p.left.ld c.args.i0 0 0 c.requires.rows_bound.2 c.row_stride-ra.ensures c.column_stride-ca.ensures (c.requires.by_index.0 0 0 (omega arith) (omega arith)))

pub slice_bounds-columns-start : goal.slice_bounds-columns-start
slice_bounds-columns-start c = omega (arith, left-room c.args.p.left.form c.args.p.left.ld c.args.i0 0 0 c.requires.rows_bound.2 c.row_stride-ra.ensures c.column_stride-ca.ensures (c.requires.by_index.0 0 0 (omega arith) (omega arith)))

pub offset_bounds-p-y : goal.offset_bounds-p-y
offset_bounds-p-y c = omega (arith, right-room c.args.p.right.form c.args.p.right.ld c.args.j0 0 0 c.requires.rows_bound.3 c.row_stride-rb.ensures c.column_stride-cb.ensures (c.requires.by_index.1 0 0 (omega arith) (omega arith)))

pub slice_bounds-columns-count-2 : goal.slice_bounds-columns-count-2
slice_bounds-columns-count-2 c = omega (arith, right-room c.args.p.right.form c.args.p.right.ld c.args.j0 0 0 c.requires.rows_bound.3 c.row_stride-rb.ensures c.column_stride-cb.ensures (c.requires.by_index.1 0 0 (omega arith) (omega arith)))

pub slice_bounds-columns-start-2 : goal.slice_bounds-columns-start-2
slice_bounds-columns-start-2 c = omega (arith, right-room c.args.p.right.form c.args.p.right.ld c.args.j0 0 0 c.requires.rows_bound.3 c.row_stride-rb.ensures c.column_stride-cb.ensures (c.requires.by_index.1 0 0 (omega arith) (omega arith)))

pub columns-requires : goal.columns-requires
columns-requires c = record {
  rows_nonzero = omega arith;
  by_index = (
    (λ i l hi hl. simp tail-length (omega (arith, left-room c.args.p.left.form c.args.p.left.ld c.args.i0 i l c.requires.rows_bound.2 c.row_stride-ra.ensures c.column_stride-ca.ensures (c.requires.by_index.0 i l hi hl)))),
    (λ l j hl hj. simp tail-length (omega (arith, right-room c.args.p.right.form c.args.p.right.ld c.args.j0 l j c.requires.rows_bound.3 c.row_stride-rb.ensures c.column_stride-cb.ensures (c.requires.by_index.1 l j hl hj)))),
  );
}

pub returns : goal.returns
unfolding region
returns c = same-product _ _ _ _ _ _ _ _ _ _ _ _ _ (omega arith) (is-box _ _)
    (λ i l hi hl. left-entry c.args.p.left.form _ c.args.p.left.ld c.args.i0 i l c.requires.rows_bound.2 c.row_stride-ra.ensures c.column_stride-ca.ensures)
    (λ l j hl hj. right-entry c.args.p.right.form _ c.args.p.right.ld c.args.j0 l j c.requires.rows_bound.3 c.row_stride-rb.ensures c.column_stride-cb.ensures)
    c.columns.ensures
