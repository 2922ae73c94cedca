-- `pack::transposed` meets its contract: the elements below y of each line are done.
use Prim.Native.Nat.{◌+◌, ◌*◌}
use mathlib.Core.Path.{◌≡◌}
use Rattle.arrays.specs.Update.{update, region}
use Rattle.packing.specs.Factor.{along}
use Rattle.floats.specs.Array.{at}
use Rattle.packing.proofs.pack.transposed.Given as goal

abbrev pub invariant-loop-y : goal.invariant-loop-y
invariant-loop-y l = l.dest ≡ update (region 64 l.y l.nx (λ y' x _. at l.a.cells.now (along l.i.down l.i.from y' * l.a.ld + along l.j.down l.j.from x))) l.initial.dest
