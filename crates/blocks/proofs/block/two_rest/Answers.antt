-- `block::two_rest` meets its contract: the terms below q are done.
use native.Mathlib.Omega.{arith}
use Rattle.blocks.proofs.TermLaws.{region-none, region-more}
use Rattle.blocks.proofs.block.two_rest.Goals as goal

pub loop-q-init : goal.loop-q-init
loop-q-init c = region-none _ _ _ _ _ _

pub loop-q-preserved : goal.loop-q-preserved
loop-q-preserved c = region-more _ _ _ _ _ _ (omega arith) _ _ _ _ c.loop-q.invariant c.pair.ensures
