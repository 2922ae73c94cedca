-- `block::two` meets its contract: the terms below q are done, four in a turn.
use Prim.Native.Nat.{◌-◌, ◌+◌}
use mathlib.Core.Path.{◌≡◌}
use native.Mathlib.Omega.{arith}
use Rattle.blocks.proofs.TermLaws.{region-none, region-more}
use Rattle.blocks.proofs.block.two.Goals as goal

pub loop-q-init : goal.loop-q-init
loop-q-init c = (omega arith, region-none _ _ _ _ _ _)

pub loop-q-preserved : goal.loop-q-preserved
loop-q-preserved c = (omega arith, region-more _ _ _ _ _ _ (omega arith) _ _ _ _ c.loop-q.invariant.1 c.pair4.ensures)

pub returns : goal.returns
returns c =
    let e : c.loop-q.q + (c.args.terms - c.loop-q.q) ≡ c.args.terms = omega arith in
    rw e at (region-more _ _ _ _ _ _ (omega arith) _ _ _ _ c.loop-q.invariant.1 c.two_rest.ensures)
