-- `direct::right_mirrored` meets its contract: the right factor is written out.
use Rattle.arrays.proofs.TrapezoidLaws.{is-box}
use Rattle.direct.proofs.DirectLaws.{same-product, written_out, mirrored-room, buffer-room}
use Rattle.packing.specs.Factor.{entry_of}
use Rattle.arrays.specs.Update.{region}
use Rattle.arrays.proofs.UpdateLaws.{length-update}
use lib.ListN.{length}
use native.Mathlib.Omega.{arith}
use native.Mathlib.Nat.{zero-add}
use mathlib.Core.Path.{refl, ap, ◌∙◌}
use Prim.Native.Nat.{ℕ, ◌+◌}
use borrow.Author.Rules.{rules}
use Rattle.direct.proofs.right_mirrored.Goals as goal

pub is_lower-lower-requires : goal.is_lower-lower-requires
is_lower-lower-requires g c = search rules

pub block-requires : goal.block-requires
block-requires g c = record {
  stride_nonzero = (omega arith, omega arith, omega arith, omega arith, omega arith);
  by_index = λ y x hy hx. mirrored-room c.args.p.right.form c.args.p.right.ld _ (c.args.j0 + x) c.requires.rows_bound.3 c.is_lower-lower.ensures (rw (zero-add y) (c.requires.by_index.1 y x hy hx));
}

pub strides-requires : goal.strides-requires
strides-requires g c = let e = ap length c.block.ensures ∙ length-update _ _ in record {
  room = omega arith;
  terms_nonzero = omega arith;
  rows_bound = (c.requires.rows_bound.0, omega arith, c.requires.rows_bound.2, refl);
  by_index = (c.requires.by_index.0, (λ l j hl hj. rw (zero-add j) (buffer-room c.args.s l j (omega arith) (omega (arith, e)) hl hj)));
}

pub returns : goal.returns
unfolding region
returns g c = same-product _ _ _ _ _ _ _ _ _ _ _ _ _ (omega arith) (is-box _ _) (λ i l hi hl. refl)
    (λ l j hl hj. rw (zero-add j) (written_out c.args.s c.args.p.right.form _ c.args.p.right.ld c.args.p.terms c.args.area.cols 0 c.args.j0 _ _ l j c.requires.rows_bound.3 c.is_lower-lower.ensures (omega arith) (omega arith) c.block.ensures hl hj) ∙ ap (λ (n : ℕ). entry_of c.args.p.right.form c.args.p.right.cells.now c.args.p.right.ld n (c.args.j0 + j)) (zero-add l))
    c.strides.ensures
