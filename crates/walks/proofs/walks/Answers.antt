-- `walks::walks` meets its contract: the terms below q are done.
use mathlib.Core.Path.{refl, ap, ◌∙◌}
use native.Mathlib.Omega.{arith}
use lib.ListN.{length}
use Rattle.arrays.proofs.UpdateLaws.{length-update}
use Rattle.walks.proofs.WalkLaws.{walked_none, walked_more}
use Rattle.walks.proofs.walks.Goals as goal

pub loop-q-init : goal.loop-q-init
loop-q-init c = (omega arith, refl, walked_none _ _ _ _ _ _)

pub loop-q-preserved : goal.loop-q-preserved
loop-q-preserved c =
    let e = walked_more _ _ _ _ _ _ _ _ _ _ (omega arith) c.loop-q.invariant.2 c.walk.ensures.1 in
    (omega arith, ap length e ∙ length-update _ _, e)
