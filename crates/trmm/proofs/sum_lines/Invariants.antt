-- `sum_lines` meets its contract: the elements of the pieces that are done have their sums, the others are as at entry.
use mathlib.Core.Path.{◌≡◌}
use Rattle.std.specs.Prelude.{if◌then◌else◌}
use Rattle.arrays.specs.Update.{update}
use Rattle.floats.specs.Array.{at}
use Rattle.lines.specs.Lines.{cell, grid}
use Rattle.trmm_diagonal.specs.Terms.{done, matrix_of}
use Rattle.trmm.specs.Sum.{sum_of}
use Rattle.trmm.proofs.sum_lines.Given as goal

abbrev pub invariant-loop-k : goal.invariant-loop-k
invariant-loop-k l =
    (goal.iterator-loop-k).can_next l.k-iterator × (goal.iterator-loop-k).is_finite l.k-iterator × (l.k-iterator.end ≡ l.g.m) × (l.k-iterator.step ≡ l.r)
    × (l.b ≡ update (grid l.g.left l.g.ld l.g.m l.g.lines (λ q l' e. if done l.by.after l.g.m l.k-iterator.at q then sum_of l.g.left l.by.after l.by.alpha (matrix_of l.by) l.g.m (λ p. at l.initial.b (cell l.g.left l.g.ld p l')) q else e)) l.initial.b)
