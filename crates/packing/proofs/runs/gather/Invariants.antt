-- `runs::gather` meets its contract: the elements below y are done.
use Prim.Native.Nat.{◌*◌}
use mathlib.Core.Path.{◌≡◌}
use Rattle.arrays.specs.Update.{update, below}
use Rattle.floats.specs.Array.{at}
use Rattle.packing.proofs.runs.gather.Given as goal

abbrev pub invariant-loop-y : goal.invariant-loop-y
invariant-loop-y l = l.dest ≡ update (below l.y (λ p x. at l.a (p * l.ld))) l.initial.dest
