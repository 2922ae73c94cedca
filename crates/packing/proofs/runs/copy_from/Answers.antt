-- `runs::copy_from` meets its contract: a run that is reversed, or copied.
use mathlib.Core.Path.{◌∙◌}
use Rattle.arrays.proofs.UpdateLaws.{below-same}
use Rattle.packing.proofs.PackLaws.{run_up, run_down}
use Rattle.packing.proofs.runs.copy_from.Goals as goal

pub returns-then-run : goal.returns-then-run
returns-then-run c = c.reversed.ensures ∙ below-same _ _ _ _ (λ y h x. run_down c.args.a.now c.args.run.from y c.args.n c.if-run.true h (c.requires.1.back c.if-run.true).0)

pub returns : goal.returns
returns c = c.copy.ensures ∙ below-same _ _ _ _ (λ y h x. run_up c.args.a.now c.args.run.from y c.if-run.false)
