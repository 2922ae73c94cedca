-- `walks::walk` meets its contract: the columns below j are done, and their passes are counted.
use Prim.Native.Nat.{◌≤◌, ◌*◌}
use mathlib.Core.Path.{◌≡◌}
use Rattle.arrays.specs.Update.{update, entries, only, corner}
use Rattle.blocks.specs.Terms.{packed}
use Rattle.walks.proofs.WalkLaws.{Counted}
use Rattle.walks.proofs.walk.Given as goal

abbrev pub invariant-loop-j : goal.invariant-loop-j
invariant-loop-j l = (l.count ≤ l.j * 64) × Counted l.lower l.order l.j l.count × (l.c ≡ update (entries l.ld (only (corner l.lower l.order l.j) (packed l.terms l.u l.t))) l.initial.c)
