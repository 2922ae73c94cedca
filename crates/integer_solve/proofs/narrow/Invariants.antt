-- `narrow` copies from the front.
use mathlib.Core.Path.{◌≡◌}
use lib.IntN.{pos}
use lib.ListN.{get_or}
use Rattle.arrays.specs.Update.{update, below}
use Rattle.integer_solve.proofs.narrow.Given as goal

abbrev pub invariant-loop-i : goal.invariant-loop-i
invariant-loop-i l = l.x ≡ update (below l.i (λ p _. get_or l.s p (pos 0))) l.initial.x
