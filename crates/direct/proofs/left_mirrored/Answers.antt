-- `direct::left_mirrored` meets its contract: the left factor is written out.
use lib.ListN.{length}
use native.Mathlib.Omega.{arith}
use Prim.Native.Nat.{ℕ, ◌+◌}
use Rattle.arrays.proofs.TrapezoidLaws.{is-box}
use Rattle.direct.proofs.DirectLaws.{same-product, written_out, mirrored-room, buffer-room}
use Rattle.packing.specs.Factor.{entry_of}
use Rattle.arrays.specs.Update.{region}
use Rattle.arrays.proofs.UpdateLaws.{length-update}
use native.Mathlib.Nat.{zero-add}
use mathlib.Core.Path.{refl, ap, ◌∙◌}
use borrow.Author.Rules.{rules}
use Rattle.direct.proofs.left_mirrored.Goals as goal

pub is_lower-lower-requires : goal.is_lower-lower-requires
is_lower-lower-requires g c = search rules

pub block-requires : goal.block-requires
block-requires g c = record {
  stride_nonzero = (omega arith, omega arith, omega arith, omega arith, omega arith);
  by_index = λ y x hy hx. mirrored-room c.args.p.left.form c.args.p.left.ld (c.args.i0 + y) _ c.requires.rows_bound.2 c.is_lower-lower.ensures (rw (zero-add x) (c.requires.by_index.0 y x hy hx));
}

pub strides-requires : goal.strides-requires
strides-requires g c = let e = ap length c.block.ensures ∙ length-update _ _ in record {
  room = omega arith;
  terms_nonzero = omega arith;
  rows_bound = (omega arith, c.requires.rows_bound.1, refl, c.requires.rows_bound.3);
  by_index = ((λ i l hi hl. rw (zero-add i) (buffer-room c.args.s i l (omega arith) (omega (arith, e)) hi hl)), c.requires.by_index.1);
}

pub returns : goal.returns
unfolding region
returns g c = same-product _ _ _ _ _ _ _ _ _ _ _ _ _ (omega arith) (is-box _ _)
    (λ i l hi hl. rw (zero-add i) (written_out c.args.s c.args.p.left.form _ c.args.p.left.ld c.args.area.rows c.args.p.terms c.args.i0 0 _ _ i l c.requires.rows_bound.2 c.is_lower-lower.ensures (omega arith) (omega arith) c.block.ensures hi hl) ∙ ap (λ (n : ℕ). entry_of c.args.p.left.form c.args.p.left.cells.now c.args.p.left.ld (c.args.i0 + i) n) (zero-add l))
    (λ l j hl hj. refl) c.strides.ensures
