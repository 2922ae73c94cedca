-- `block::column_rest` meets its contract: the terms below q are done.
use mathlib.Core.Path.{◌≡◌}
use Rattle.arrays.specs.Update.{update, below}
use Rattle.blocks.specs.Terms.{packed}
use Rattle.blocks.proofs.block.column_rest.Given as goal

abbrev pub invariant-loop-q : goal.invariant-loop-q
invariant-loop-q l = l.c ≡ update (below l.rows (λ i e. packed l.q l.u l.t i 0 e)) l.initial.c
