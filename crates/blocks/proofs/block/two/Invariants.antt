-- `block::two` meets its contract: the terms below q are done, four in a turn.
use Prim.Native.Nat.{◌≤◌, ◌-◌}
use mathlib.Core.Path.{◌≡◌}
use Rattle.arrays.specs.Update.{update, region}
use Rattle.blocks.specs.Terms.{packed}
use Rattle.blocks.proofs.block.two.Given as goal

abbrev pub invariant-loop-q : goal.invariant-loop-q
invariant-loop-q l = (l.q ≤ l.terms) × (l.c ≡ update (region l.ld l.rows 2 (packed l.q l.u l.t)) l.initial.c)

abbrev pub decreases-loop-q : goal.decreases-loop-q
decreases-loop-q l = l.terms - l.q
