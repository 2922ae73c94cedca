-- `panels::sweep` meets its contract: the rows before the next piece are done.
use Prim.Native.Nat.{◌+◌}
use mathlib.Core.Path.{◌≡◌}
use Rattle.arrays.specs.Update.{update, region}
use Rattle.packing.specs.Factor.{matrix_of, along}
use Rattle.kernel.specs.Panels.{half_packed}
use Rattle.kernel.proofs.panels.sweep.Given as goal

abbrev pub invariant-loop-i : goal.invariant-loop-i
invariant-loop-i l =
    (goal.iterator-loop-i).can_next l.i-iterator × (goal.iterator-loop-i).is_finite l.i-iterator × (l.i-iterator.end ≡ l.area.rows) × (l.i-iterator.step ≡ l.r)
    × (l.c ≡ update (region l.area.ld l.i-iterator.at l.area.cols (half_packed l.n l.t (λ i' q. matrix_of l.a (l.i0 + i') (along l.terms.down l.terms.from q)))) l.initial.c)
