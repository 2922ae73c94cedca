-- `leaves::pair` meets its contract: the rows below i are done in both columns.
use mathlib.Core.Path.{◌≡◌}
use Rattle.arrays.specs.Update.{update, region}
use Rattle.blocks.specs.Terms.{packed}
use Rattle.blocks.proofs.leaves.pair.Given as goal

abbrev pub invariant-loop-i : goal.invariant-loop-i
invariant-loop-i l = l.c ≡ update (region l.ld l.i 2 (packed 1 l.u l.t)) l.initial.c
