-- `gemm::symm_strip` makes the strip that SYMM's definition gives, on either side.
use mathlib.Core.Path.{◌≡◌, refl, ap}
use native.Mathlib.Omega.{arith}
use Rattle.definitions.specs.Call.{by_side, has_k, in_place, in_triangle, order, shape_a, shape_b, shape_c}
use Rattle.definitions.specs.declared.Routine.TheVariants.{Symm}
use Rattle.definitions.specs.declared.Side.{Side}
use Rattle.forms.proofs.Rooms.{mirrored-inside, plain-inside, part_room, some-factor}
use Rattle.gemm.proofs.StripLaws.{strip-is}
use Rattle.gemm.proofs.Values.{symm-left, symm-right}
use Rattle.gemm.proofs.symm_strip.Goals as goal

pub accumulate-requires : goal.accumulate-requires
unfolding shape_a shape_b shape_c order by_side has_k
accumulate-requires c =
    let g = c.args.call in
    let f = c.requires.fits in
    let b = c.requires.cols_nonzero in
    let o : order g ≡ g.m = ap (λ (s : Side). by_side s g.m g.n) c.in-Left.is in record {
      room = (f.some-rows, f.ld-c, part_room _ _ _ _ _ _ f.room-c f.some-rows (omega (arith, b)) (omega (arith, b)), omega (arith, b));
      cols_bound = omega (arith, b);
      l_in_bounds = (
        (λ z i l hi hl. rw c.mirrored_form-f.ensures (mirrored-inside g.uplo _ (order g) _ (f.room-a (some-factor g (ap has_k f.routine-is) z)) i l (omega (arith, o)) (omega (arith, o)))),
        (λ z l j hl hj. plain-inside _ _ _ _ (f.room-b (some-factor g (ap has_k f.routine-is) z)) l _ hl (omega (arith, b))),
      );
    }

pub accumulate-requires-in-Right : goal.accumulate-requires-in-Right
unfolding shape_a shape_b shape_c order by_side has_k
accumulate-requires-in-Right c =
    let g = c.args.call in
    let f = c.requires.fits in
    let b = c.requires.cols_nonzero in
    let o : order g ≡ g.n = ap (λ (s : Side). by_side s g.m g.n) c.in-Right.is in record {
      room = (f.some-rows, f.ld-c, part_room _ _ _ _ _ _ f.room-c f.some-rows (omega (arith, b)) (omega (arith, b)), omega (arith, b));
      cols_bound = omega (arith, b);
      l_in_bounds = (
        (λ z i l hi hl. plain-inside _ _ _ _ (f.room-b (some-factor g (ap has_k f.routine-is) z)) i l hi hl),
        (λ z l j hl hj. rw c.mirrored_form-f.ensures (mirrored-inside g.uplo _ (order g) _ (f.room-a (some-factor g (ap has_k f.routine-is) z)) l _ (omega (arith, o)) (omega (arith, b, o)))),
      );
    }

pub returns-in-Left : goal.returns-in-Left
unfolding shape_c in_place in_triangle
returns-in-Left c =
    let g = c.args.call in
    let f = c.requires.fits in
    strip-is g _ _ _ _ Symm f.routine-is refl (λ i j. refl) _ _ _ _ _ _ _ (λ i j x. rw c.mirrored_form-f.ensures (symm-left g _ _ i j x c.in-Left.is))
    f.some-rows f.ld-c (omega (arith, c.requires.cols_nonzero)) _ _ c.accumulate.ensures

pub returns-in-Right : goal.returns-in-Right
unfolding shape_c in_place in_triangle
returns-in-Right c =
    let g = c.args.call in
    let f = c.requires.fits in
    strip-is g _ _ _ _ Symm f.routine-is refl (λ i j. refl) _ _ _ _ _ _ _ (λ i j x. rw c.mirrored_form-f.ensures (symm-right g _ _ i j x c.in-Right.is))
    f.some-rows f.ld-c (omega (arith, c.requires.cols_nonzero)) _ _ c.accumulate-in-Right.ensures
