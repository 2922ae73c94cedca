-- `direct::quad` meets its contract: the first q terms of each of the four elements are done.
use Prim.Native.Nat.{◌*◌, ◌+◌}
use Rattle.direct.proofs.DirectLaws.{partly-nothing, strided-more, four-set}
use Rattle.direct.specs.Product.{product}
use mathlib.Core.Path.{◌≡◌}
use native.Mathlib.Omega.{arith}
use Rattle.direct.proofs.quad.Goals as goal

pub loop-q-init : goal.loop-q-init
loop-q-init c = (partly-nothing _ _ _ _ _ _ _ _, partly-nothing _ _ _ _ _ _ _ _, partly-nothing _ _ _ _ _ _ _ _, partly-nothing _ _ _ _ _ _ _ _)

pub overflow_mul-p : goal.overflow_mul-p
overflow_mul-p c = omega (arith, c.requires.1 3 c.turn_of-l.result (omega arith) c.turn_of-l.ensures.1)

pub offset_bounds-a-p : goal.offset_bounds-a-p
offset_bounds-a-p c = omega (arith, c.requires.1 3 c.turn_of-l.result (omega arith) c.turn_of-l.ensures.1)

pub overflow_add-f : goal.overflow_add-f
overflow_add-f c = omega (arith, c.requires.1 3 c.turn_of-l.result (omega arith) c.turn_of-l.ensures.1)

pub offset_bounds-a-p-in-loop-q : goal.offset_bounds-a-p-in-loop-q
offset_bounds-a-p-in-loop-q c = omega (arith, c.requires.1 3 c.turn_of-l.result (omega arith) c.turn_of-l.ensures.1)

pub loop-q-preserved : goal.loop-q-preserved
loop-q-preserved c = (strided-more _ _ _ _ c.args.b.now c.args.rb _ _ _ 0 (c.turn_of-l.result * c.args.a.column) _ _ c.turn_of-l.ensures.0 (omega arith) c.loop-q.invariant.0, strided-more _ _ _ _ c.args.b.now c.args.rb _ _ _ 1 (c.turn_of-l.result * c.args.a.column + c.args.a.row) _ _ c.turn_of-l.ensures.0 (omega arith) c.loop-q.invariant.1, strided-more _ _ _ _ c.args.b.now c.args.rb _ _ _ 2 (c.turn_of-l.result * c.args.a.column + 2 * c.args.a.row) _ _ c.turn_of-l.ensures.0 (omega arith) c.loop-q.invariant.2, strided-more _ _ _ _ c.args.b.now c.args.rb _ _ _ 3 (c.turn_of-l.result * c.args.a.column + 3 * c.args.a.row) _ _ c.turn_of-l.ensures.0 (omega arith) c.loop-q.invariant.3)

pub returns : goal.returns
unfolding product
returns c = let e : c.loop-q.q ≡ c.args.k = omega arith in
    four-set _ _ _ _ _ _ (omega arith) (rw e at c.loop-q.invariant.0) (rw e at c.loop-q.invariant.1) (rw e at c.loop-q.invariant.2) (rw e at c.loop-q.invariant.3)
