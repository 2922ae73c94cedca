-- `pack::line` meets its contract: the entries below y are done.
use mathlib.Core.Path.{◌≡◌}
use Rattle.arrays.specs.Update.{update, below}
use Rattle.packing.specs.Factor.{entry_of, along}
use Rattle.packing.proofs.pack.line.Given as goal

abbrev pub invariant-loop-y : goal.invariant-loop-y
invariant-loop-y l = l.dest ≡ update (below l.y (λ p x. entry_of l.a.form l.a.cells.now l.a.ld (along l.i.down l.i.from p) l.j)) l.initial.dest
