-- `pack::plain` meets its contract: the lines below x are done.
use Prim.Native.Nat.{◌+◌, ◌*◌}
use mathlib.Core.Path.{◌≡◌}
use Rattle.arrays.specs.Update.{update, region}
use Rattle.packing.specs.Factor.{along}
use Rattle.floats.specs.Array.{at}
use Rattle.packing.proofs.pack.plain.Given as goal

abbrev pub invariant-loop-x : goal.invariant-loop-x
invariant-loop-x l = l.dest ≡ update (region 64 l.ny l.x (λ y x' _. at l.a.cells.now (along l.j.down l.j.from x' * l.a.ld + along l.i.down l.i.from y))) l.initial.dest
