-- `direct::column` meets its contract: the elements below i are done, four in a turn.
use Rattle.direct.specs.Product.{strided, product}
use Rattle.floats.specs.Array.{at}
use Rattle.arrays.specs.Update.{update, below}
use lib.ListN.{length}
use mathlib.Core.Path.{◌≡◌}
use Prim.Native.Nat.{◌≤◌, ◌-◌, ◌*◌}
use Rattle.direct.proofs.column.Given as goal

abbrev pub invariant-loop-i : goal.invariant-loop-i
invariant-loop-i l = (l.i ≤ l.rows) × (length l.c ≡ length l.initial.c) × (l.c ≡ update (below l.i (λ p e. product l.alpha (strided l.a.cells.now l.a.row l.a.column) (λ l' _. at l.b (l' * l.rb)) l.down l.k p 0 e)) l.initial.c)

abbrev pub decreases-loop-i : goal.decreases-loop-i
decreases-loop-i l = l.rows - l.i
