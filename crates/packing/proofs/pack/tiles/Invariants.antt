-- `pack::tiles` meets its contract: the lines of the first q tiles are done.
use Prim.Native.Nat.{◌+◌, ◌*◌}
use mathlib.Core.Path.{◌≡◌}
use Rattle.arrays.specs.Update.{update, region}
use Rattle.floats.specs.Array.{at}
use Rattle.packing.specs.Factor.{along}
use Rattle.packing.proofs.pack.tiles.Given as goal

abbrev pub invariant-loop-q : goal.invariant-loop-q
invariant-loop-q l = l.dest ≡ update (region 64 l.ny (l.q * 8) (λ y x' _. at l.a.cells.now (along l.i.down l.i.from y * l.a.ld + along l.j.down l.j.from x'))) l.initial.dest
