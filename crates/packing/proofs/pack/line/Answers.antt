-- `pack::line` meets its contract: the entries below y are done.
use Prim.Native.Nat.{ℕ}
use mathlib.Core.Path.{◌≡◌, ap, ◌∙◌}
use native.Mathlib.Omega.{arith}
use lib.Ieee.{nan}
use lib.ListN.{set}
use Rattle.arrays.proofs.UpdateLaws.{below_none, below_more}
use Rattle.packing.specs.Factor.{index_of, entry_of, along}
use Rattle.floats.specs.Array.{at}
use Rattle.packing.proofs.pack.line.Goals as goal
use Rattle.packing.proofs.pack.line.Goals.{After-place-p}

-- the place that is read
spot : (c : After-place-p) → c.place-p.result ≡ index_of c.args.a.form c.args.a.ld (along c.args.i.down c.args.i.from c.loop-y.y) c.args.j
spot c = c.place-p.ensures ∙ ap (λ (r : ℕ). index_of c.args.a.form c.args.a.ld r c.args.j) c.index-row.ensures

pub loop-y-init : goal.loop-y-init
loop-y-init c = below_none _ _

pub loop-y-preserved : goal.loop-y-preserved
unfolding entry_of
loop-y-preserved c = ap (λ (p : ℕ). set c.loop-y.dest c.loop-y.y (at c.args.a.cells.now p)) (spot (goal.at.loop-y-preserved c).After-place-p) ∙ below_more nan _ _ _ _ c.loop-y.invariant (omega arith)
