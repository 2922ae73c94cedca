-- `runs::spread` meets its contract: the lines below x are done.
use mathlib.Core.Path.{◌≡◌}
use Rattle.arrays.specs.Update.{update, region}
use Rattle.floats.specs.Array.{at}
use Rattle.packing.proofs.runs.spread.Given as goal

abbrev pub invariant-loop-x : goal.invariant-loop-x
invariant-loop-x l = l.dest ≡ update (region 64 1 l.x (λ y x' _. at l.a x')) l.initial.dest
