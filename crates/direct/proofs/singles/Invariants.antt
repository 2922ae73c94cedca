-- `direct::singles` meets its contract: the elements below i are done.
use Rattle.direct.specs.Product.{strided, product}
use Rattle.floats.specs.Array.{at}
use Rattle.arrays.specs.Update.{update, below}
use mathlib.Core.Path.{◌≡◌}
use Prim.Native.Nat.{◌*◌}
use Rattle.direct.proofs.singles.Given as goal

abbrev pub invariant-loop-i : goal.invariant-loop-i
invariant-loop-i l = l.c ≡ update (below l.i (λ p e. product l.alpha (strided l.a.cells.now l.a.row l.a.column) (λ l' _. at l.b (l' * l.rb)) l.down l.k p 0 e)) l.initial.c
