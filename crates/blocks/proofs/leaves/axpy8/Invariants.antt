-- `leaves::axpy8` meets its contract: the elements below i are done and counted.
use mathlib.Core.Path.{◌≡◌}
use Rattle.arrays.specs.Update.{update, below}
use Rattle.blocks.specs.Terms.{packed}
use Rattle.blocks.proofs.leaves.axpy8.Given as goal

abbrev pub invariant-loop-i : goal.invariant-loop-i
invariant-loop-i l = (l.count ≡ l.i) × (l.c ≡ update (below l.i (λ p e. packed 8 l.u l.t p 0 e)) l.initial.c)
