-- `direct::singles` meets its contract: the elements below i are done.
use Rattle.direct.proofs.DirectLaws.{column-part, row-part}
use Rattle.direct.specs.Product.{strided}
use Rattle.arrays.proofs.UpdateLaws.{below_none}
use native.Mathlib.Omega.{arith}
use Rattle.direct.proofs.singles.Goals as goal

pub loop-i-init : goal.loop-i-init
loop-i-init c = below_none _ _

pub overflow_mul-x : goal.overflow_mul-x
overflow_mul-x c = omega (arith, c.requires.2 c.loop-i.i 0 c.loop-i-test.true c.requires.1)

pub offset_bounds-a-x : goal.offset_bounds-a-x
offset_bounds-a-x c = omega (arith, c.requires.2 c.loop-i.i 0 c.loop-i-test.true c.requires.1)

pub loop-i-preserved : goal.loop-i-preserved
loop-i-preserved c = let e = column-part _ (strided _ c.args.a.row _) _ _ _ _ _ 1 _ _ _ (omega arith) (λ r q hr hq. row-part _ c.args.a.row _ _ r q hr) c.loop-i.invariant c.single.ensures in
    e
