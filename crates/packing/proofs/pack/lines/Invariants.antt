-- `pack::lines` meets its contract: the lines below x are done.
use mathlib.Core.Path.{◌≡◌}
use Rattle.arrays.specs.Update.{update, region}
use Rattle.packing.specs.Factor.{entry_of, along}
use Rattle.packing.proofs.pack.lines.Given as goal

abbrev pub invariant-loop-x : goal.invariant-loop-x
invariant-loop-x l = l.dest ≡ update (region l.stride l.ny l.x (λ y x' _. entry_of l.a.form l.a.cells.now l.a.ld (along l.i.down l.i.from y) (along l.j.down l.j.from x'))) l.initial.dest
