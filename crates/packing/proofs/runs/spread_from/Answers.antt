-- `runs::spread_from` meets its contract: a run that is spread from its last element back, or from its first on.
use mathlib.Core.Path.{◌∙◌}
use native.Mathlib.Omega.{arith}
use Rattle.arrays.proofs.RegionLaws.{region-same}
use Rattle.packing.proofs.PackLaws.{run_up, run_down}
use Rattle.packing.proofs.runs.spread_from.Goals as goal

pub returns-then-run : goal.returns-then-run
returns-then-run c = c.spread_reversed.ensures ∙ region-same 64 1 _ _ _ _ (omega arith) (λ y x hy hx _. run_down c.args.a.now c.args.run.from x c.args.n c.if-run.true hx (c.requires.1.back c.if-run.true).0)

pub returns : goal.returns
returns c = c.spread.ensures ∙ region-same 64 1 _ _ _ _ (omega arith) (λ y x hy hx _. run_up c.args.a.now c.args.run.from x c.if-run.false)
