-- `walk` meets its contract: the elements before j are done.
use Rattle.trmm_diagonal.proofs.WalkLaws.{Span, span_of, walk_none, walk_more}
use native.Mathlib.Omega.{arith}
use Rattle.trmm_diagonal.proofs.walk.Goals as goal
use Rattle.trmm_diagonal.proofs.walk.Goals.{After-pick-count}

-- the terms that are added in a turn
span : (c : After-pick-count) → Span c.args.after c.args.n c.loop-j.j c.pick-lo.result c.pick-count.result
span c =
    span_of _ _ _ _ _ c.loop-j-test.true c.pick-lo.ensures c.pick-count.ensures

pub loop-j-init : goal.loop-j-init
loop-j-init c = walk_none _ _ _ _ _ _

pub loop-j-preserved : goal.loop-j-preserved
loop-j-preserved c = let s = span (goal.at.loop-j-preserved c).After-pick-count in
    walk_more _ _ _ _ _ _ _ _ _ _ _ (omega arith) (omega arith) s c.loop-j.invariant c.column.ensures
