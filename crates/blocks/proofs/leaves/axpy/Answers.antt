-- `leaves::axpy` meets its contract: the elements below i are done and counted.
use mathlib.Core.Path.{refl, sym, ap, ◌∙◌}
use native.Mathlib.Omega.{arith}
use lib.Ieee.{Float, nan}
use lib.ListN.{set}
use Rattle.arrays.proofs.UpdateLaws.{below_none, below_more}
use Rattle.blocks.proofs.TermLaws.{packed-one}
use Rattle.blocks.proofs.leaves.axpy.Goals as goal

pub loop-i-init : goal.loop-i-init
loop-i-init c = (refl, below_none _ _)

pub loop-i-preserved : goal.loop-i-preserved
loop-i-preserved c = (omega arith, ap (λ (x : Float). set c.loop-i.c c.loop-i.i x) (sym (packed-one _ _ _ 0 _)) ∙ below_more nan _ _ _ _ c.loop-i.invariant.1 (omega arith))
