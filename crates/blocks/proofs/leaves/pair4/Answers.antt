-- `leaves::pair4` meets its contract: the rows below i are done in both columns.
use Prim.Native.Nat.{◌+◌}
use mathlib.Core.Path.{sym, ap₂, ◌∙◌}
use native.Mathlib.Omega.{arith}
use lib.Ieee.{Float, nan}
use lib.ListN.{set}
use Rattle.arrays.proofs.RegionLaws.{region-no-rows, two-more}
use Rattle.blocks.proofs.TermLaws.{packed-four}
use Rattle.blocks.proofs.leaves.pair4.Goals as goal

pub loop-i-init : goal.loop-i-init
loop-i-init c = region-no-rows _ _ _ _

pub loop-i-preserved : goal.loop-i-preserved
loop-i-preserved c = ap₂ (λ (x y : Float). set (set c.loop-i.c c.loop-i.i x) (c.args.ld + c.loop-i.i) y) (sym (packed-four _ _ _ 0 _)) (sym (packed-four _ _ _ 1 _))
    ∙ two-more nan _ (omega arith) _ _ _ _ (omega arith) (omega arith) c.loop-i.invariant
