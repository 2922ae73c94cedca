-- `runs::spread_reversed` meets its contract: the lines below x are done.
use Prim.Native.Nat.{◌-◌}
use mathlib.Core.Path.{◌≡◌}
use Rattle.arrays.specs.Update.{update, region}
use Rattle.floats.specs.Array.{at}
use Rattle.packing.proofs.runs.spread_reversed.Given as goal

abbrev pub invariant-loop-x : goal.invariant-loop-x
invariant-loop-x l = l.dest ≡ update (region 64 1 l.x (λ y x' _. at l.a (l.n - 1 - x'))) l.initial.dest
