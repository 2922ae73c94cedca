-- `walks::walks` meets its contract: the terms below q are done.
use Prim.Native.Nat.{◌≤◌, ◌-◌}
use mathlib.Core.Path.{◌≡◌}
use lib.ListN.{length}
use Rattle.arrays.specs.Update.{update, entries, only, corner}
use Rattle.blocks.specs.Terms.{packed}
use Rattle.walks.proofs.walks.Given as goal

abbrev pub invariant-loop-q : goal.invariant-loop-q
invariant-loop-q l = (l.q ≤ l.terms) × (length l.c ≡ length l.initial.c) × (l.c ≡ update (entries l.ld (only (corner l.lower l.order l.order) (packed l.q l.u l.t))) l.initial.c)

abbrev pub decreases-loop-q : goal.decreases-loop-q
decreases-loop-q l = l.terms - l.q
