-- `pass::each` meets its contract: the elements below i are done.
use mathlib.Core.Path.{ap, ◌∙◌}
use native.Mathlib.Omega.{arith}
use lib.Ieee.{Float, nan}
use lib.ListN.{set}
use Rattle.blocks.proofs.pass.each.Goals as goal
use Rattle.arrays.proofs.UpdateLaws.{below_none, below_more}

pub loop-i-init : goal.loop-i-init
loop-i-init g c = λ h e. below_none _ _

pub loop-i-preserved : goal.loop-i-preserved
loop-i-preserved g c = λ h e. ap (λ (x : Float). set c.loop-i.c c.loop-i.i x) (e _ _ c.f.ensures) ∙ below_more nan _ _ _ _ (c.loop-i.invariant h e) (omega arith)
