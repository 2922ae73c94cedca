-- `triangles::square` meets its contract: the rows before the next piece are done.
use Prim.Native.Nat.{◌+◌}
use mathlib.Core.Bool.{false}
use mathlib.Core.Path.{◌≡◌}
use Rattle.arrays.specs.Update.{update, entries, only, corner}
use Rattle.packing.specs.Factor.{matrix_of, along}
use Rattle.kernel.specs.Panels.{half_packed}
use Rattle.triangles.proofs.square.Given as goal

abbrev pub invariant-loop-x : goal.invariant-loop-x
invariant-loop-x l =
    (goal.iterator-loop-x).can_next l.x-iterator × (goal.iterator-loop-x).is_finite l.x-iterator × (l.x-iterator.end ≡ l.order) × (l.x-iterator.step ≡ l.r)
    × (l.c ≡ update (entries l.ld (only (corner l.lower l.x-iterator.at l.order) (half_packed l.n l.t (λ i q. matrix_of l.a (l.i0 + i) (along false l.term q))))) l.initial.c)
