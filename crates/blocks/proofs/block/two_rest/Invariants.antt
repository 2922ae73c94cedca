-- `block::two_rest` meets its contract: the terms below q are done.
use mathlib.Core.Path.{◌≡◌}
use Rattle.arrays.specs.Update.{update, region}
use Rattle.blocks.specs.Terms.{packed}
use Rattle.blocks.proofs.block.two_rest.Given as goal

abbrev pub invariant-loop-q : goal.invariant-loop-q
invariant-loop-q l = l.c ≡ update (region l.ld l.rows 2 (packed l.q l.u l.t)) l.initial.c
