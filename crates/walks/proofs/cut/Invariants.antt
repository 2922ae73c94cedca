-- `walks::cut` meets its contract: the columns before the next piece are done.
use mathlib.Core.Path.{◌≡◌}
use Rattle.arrays.specs.Update.{update, entries, only, corner}
use Rattle.blocks.specs.Terms.{packed}
use Rattle.walks.proofs.cut.Given as goal

abbrev pub invariant-loop-j : goal.invariant-loop-j
invariant-loop-j l =
    (goal.iterator-loop-j).can_next l.j-iterator × (goal.iterator-loop-j).is_finite l.j-iterator × (l.j-iterator.end ≡ l.order) × (l.j-iterator.step ≡ 16)
    × (l.c ≡ update (entries l.ld (only (corner l.lower l.order l.j-iterator.at) (packed l.terms l.u l.t))) l.initial.c)
