-- `sum_elements` meets its contract: the first k elements that are done have their sums, the others are as at entry.
use mathlib.Core.Path.{◌≡◌}
use Rattle.std.specs.Prelude.{if◌then◌else◌}
use Rattle.arrays.specs.Update.{update}
use Rattle.floats.specs.Array.{at}
use Rattle.lines.specs.Lines.{cell, grid}
use Rattle.trmm_diagonal.specs.Terms.{done, matrix_of}
use Rattle.trmm.specs.Sum.{sum_of}
use Rattle.trmm.proofs.sum_elements.Given as goal

abbrev pub invariant-loop-k : goal.invariant-loop-k
invariant-loop-k l = l.b ≡ update (grid l.g.left l.g.ld l.g.m l.g.lines (λ q l' e. if done l.by.after l.g.m l.k q then sum_of l.g.left l.by.after l.by.alpha (matrix_of l.by) l.g.m (λ p. at l.initial.b (cell l.g.left l.g.ld p l')) q else e)) l.initial.b
