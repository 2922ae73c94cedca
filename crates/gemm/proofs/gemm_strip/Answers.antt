-- `gemm::gemm_strip` makes the strip that GEMM's definition gives.
use mathlib.Core.Path.{refl}
use Rattle.definitions.specs.Call.{in_place, in_triangle, shape_a, shape_b, shape_c}
use Rattle.definitions.specs.declared.Routine.TheVariants.{Gemm}
use Rattle.forms.proofs.Rooms.{op-inside, part_room, some-term}
use Rattle.gemm.proofs.StripLaws.{strip-is}
use Rattle.gemm.proofs.Values.{gemm-value}
use native.Mathlib.Omega.{arith}
use Rattle.gemm.proofs.gemm_strip.Goals as goal

pub accumulate-requires : goal.accumulate-requires
unfolding shape_a shape_b shape_c
accumulate-requires c =
    let g = c.args.call in
    let f = c.requires.fits in
    let b = c.requires.cols_nonzero in record {
      room = (f.some-rows, f.ld-c, part_room _ _ _ _ _ _ f.room-c f.some-rows (omega (arith, b)) (omega (arith, b)), omega (arith, b));
      cols_bound = omega (arith, b);
      l_in_bounds = (
        (λ z i l hi hl. rw c.op_form-fa.ensures (op-inside g.transa _ _ _ _ (f.room-a (some-term g l z hl)) i l hi hl)),
        (λ z l j hl hj. rw c.op_form-fb.ensures (op-inside g.transb _ _ _ _ (f.room-b (some-term g l z hl)) l _ hl (omega (arith, b)))),
      );
    }

pub returns : goal.returns
unfolding shape_c in_place in_triangle
returns c =
    let g = c.args.call in
    let f = c.requires.fits in
    strip-is g _ _ _ _ Gemm f.routine-is refl (λ i j. refl) _ _ _ _ _ _ _ (λ i j x. rw (c.op_form-fa.ensures, c.op_form-fb.ensures) (gemm-value g _ _ i j x))
    f.some-rows f.ld-c (omega (arith, c.requires.cols_nonzero)) _ _ c.accumulate.ensures
