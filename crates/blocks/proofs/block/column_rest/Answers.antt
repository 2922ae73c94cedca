-- `block::column_rest` meets its contract: the terms below q are done.
use Rattle.blocks.proofs.TermLaws.{column-none, column-more}
use Rattle.blocks.proofs.block.column_rest.Goals as goal

pub loop-q-init : goal.loop-q-init
loop-q-init c = column-none _ _ _ _

pub loop-q-preserved : goal.loop-q-preserved
loop-q-preserved c = column-more _ _ _ _ _ _ _ _ c.loop-q.invariant c.axpy.ensures.1
