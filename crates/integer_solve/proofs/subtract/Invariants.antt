-- `subtract` goes from lo on; the remainder that it takes a term from is still as it was.
use mathlib.Core.Path.{◌≡◌}
use Rattle.arrays.specs.Update.{update, below}
use Rattle.integer_solve.specs.Elimination.{Grown, less_term}
use Rattle.integer_solve.proofs.subtract.Given as goal

abbrev pub invariant-loop-i : goal.invariant-loop-i
invariant-loop-i l = (l.s ≡ update (below l.i (less_term l.a l.at l.x l.lo)) l.initial.s) × Grown l.initial.s l.s
