-- `rank_update::syr2k_strip` makes the strip that SYR2K's definition gives.
use Prim.Native.Nat.{◌+◌, ◌*◌, ◌≤◌}
use mathlib.Core.Path.{refl, sym, ◌∙◌}
use mathlib.Core.List.{[], ◌∷◌}
use native.Mathlib.Omega.{arith}
use lib.ListN.{length}
use Rattle.definitions.specs.Call.{has_m, in_place, in_triangle, shape_a, shape_b, shape_c}
use Rattle.definitions.specs.Element.{◌times◌}
use Rattle.definitions.specs.declared.Routine.TheVariants.{Syr2k}
use Rattle.packing.specs.Factor.{entry_of}
use Rattle.forms.proofs.Rooms.{part_room}
use Rattle.rank_update.proofs.Sums.{none-added, product-added, start-alone, all-added, syr2k-value}
use Rattle.rank_update.proofs.StripLaws.{reads, strip-is}
use Rattle.rank_update.proofs.syr2k_strip.Goals as goal
use Rattle.rank_update.proofs.syr2k_strip.Goals.{Start}

-- the part of C has room for the strip
room : (c : Start) → c.args.cols * c.args.call.ldc + c.args.call.n ≤ length c.args.c.now + c.args.call.ldc
unfolding shape_c
room c =
    let f = c.requires.fits in let b = c.requires.cols_nonzero in part_room _ _ _ _ _ _ f.room-c f.some-columns (omega (arith, b)) (omega (arith, b))

pub start_strip-requires : goal.start_strip-requires
unfolding shape_c
start_strip-requires c =
    let f = c.requires.fits in
    let b = c.requires.cols_nonzero in
    (f.some-columns, f.ld-c, room (goal.at.start_strip-requires c).Start, omega (arith, b))

pub returns-then-is_zero : goal.returns-then-is_zero
unfolding shape_c has_m in_place in_triangle
returns-then-is_zero c =
    let g = c.args.call in
    let f = c.requires.fits in
    strip-is g _ _ _ _ Syr2k f.routine-is refl (λ i j. refl) (f.square refl) _ c.is_lower-lower.ensures
    (entry_of c.op_form-p.result c.args.a.now c.args.call.lda times entry_of c.transposed_form-q.result c.args.b.now c.args.call.ldb ∷ entry_of c.op_form-p.result c.args.b.now c.args.call.ldb times entry_of c.transposed_form-q.result c.args.a.now c.args.call.lda ∷ [])
    (λ i j x. rw (c.op_form-p.ensures, c.transposed_form-q.ensures) (syr2k-value g _ _ i j x))
    f.some-columns f.ld-c (omega (arith, c.requires.cols_nonzero)) _ _
    (start-alone g _ _ _ (omega (arith, f.some-columns, f.ld-c)) _ _ _ (sym c.is_zero.ensures ∙ c.if-is_zero.true) c.start_strip.ensures)

pub trapezoid-requires : goal.trapezoid-requires
unfolding shape_a shape_b shape_c
trapezoid-requires c =
    let g = c.args.call in
    let f = c.requires.fits in
    let b = c.requires.cols_nonzero in
    let z = sym c.is_zero.ensures ∙ c.if-is_zero.false in
    let u = reads g _ _ _ _ c.op_form-p.ensures c.transposed_form-q.ensures z f.room-a in
    let w = reads g _ _ _ _ c.op_form-p.ensures c.transposed_form-q.ensures z f.room-b in record {
      room = (f.ld-c, omega (arith, room (goal.at.trapezoid-requires c).Start, c.start_strip.auto), omega (arith, b), omega (arith, b));
      r_nonzero = omega (arith, b);
      by_index = (u.left, w.right);
    }

pub trapezoid-requires-2 : goal.trapezoid-requires-2
unfolding shape_a shape_b shape_c
trapezoid-requires-2 c =
    let g = c.args.call in
    let f = c.requires.fits in
    let b = c.requires.cols_nonzero in
    let z = sym c.is_zero.ensures ∙ c.if-is_zero.false in
    let u = reads g _ _ _ _ c.op_form-p.ensures c.transposed_form-q.ensures z f.room-a in
    let w = reads g _ _ _ _ c.op_form-p.ensures c.transposed_form-q.ensures z f.room-b in record {
      room = (f.ld-c, omega (arith, room (goal.at.trapezoid-requires-2 c).Start, c.start_strip.auto, c.trapezoid.auto), omega (arith, b), omega (arith, b));
      r_nonzero = omega (arith, b);
      by_index = (w.left, u.right);
    }

pub returns : goal.returns
unfolding shape_c has_m in_place in_triangle
returns c =
    let g = c.args.call in
    let f = c.requires.fits in
    strip-is g _ _ _ _ Syr2k f.routine-is refl (λ i j. refl) (f.square refl) _ c.is_lower-lower.ensures
    (entry_of c.op_form-p.result c.args.a.now c.args.call.lda times entry_of c.transposed_form-q.result c.args.b.now c.args.call.ldb ∷ entry_of c.op_form-p.result c.args.b.now c.args.call.ldb times entry_of c.transposed_form-q.result c.args.a.now c.args.call.lda ∷ [])
    (λ i j x. rw (c.op_form-p.ensures, c.transposed_form-q.ensures) (syr2k-value g _ _ i j x))
    f.some-columns f.ld-c (omega (arith, c.requires.cols_nonzero)) _ _
    (all-added g _ _ _ (omega (arith, f.some-columns, f.ld-c)) _ _ _ (sym c.is_zero.ensures ∙ c.if-is_zero.false)
    (product-added g _ _ _ (omega (arith, f.some-columns, f.ld-c)) _ (entry_of c.op_form-p.result c.args.a.now c.args.call.lda times entry_of c.transposed_form-q.result c.args.b.now c.args.call.ldb ∷ []) _ _ _ _ _ c.factor-alpha.ensures
    (product-added g _ _ _ (omega (arith, f.some-columns, f.ld-c)) _ [] _ _ _ _ _ c.factor-alpha.ensures (none-added g _ _ _ (omega (arith, f.some-columns, f.ld-c)) _ _ c.start_strip.ensures) c.trapezoid.ensures)
    c.trapezoid-2.ensures))
