-- `direct::single` meets its contract: the first q terms are done.
use Rattle.direct.proofs.DirectLaws.{partly-nothing, term-more, below_set}
use Rattle.direct.specs.Product.{product}
use Rattle.arrays.proofs.UpdateLaws.{below_none}
use mathlib.Core.Path.{◌≡◌, refl}
use native.Mathlib.Omega.{arith}
use Rattle.direct.proofs.single.Goals as goal

pub loop-q-init : goal.loop-q-init
loop-q-init c = partly-nothing _ _ _ _ _ _ _ _

pub loop-q-preserved : goal.loop-q-preserved
loop-q-preserved c = term-more _ _ _ _ _ _ 0 0 _ _ _ _ c.turn_of-l.ensures.0 refl refl c.loop-q.invariant

pub returns : goal.returns
unfolding product
returns c = let e : c.loop-q.q ≡ c.args.k = omega arith in below_set _ _ _ 0 _ (below_none _ _) (omega arith) (rw e at c.loop-q.invariant)
