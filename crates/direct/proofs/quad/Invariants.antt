-- `direct::quad` meets its contract: the first q terms of each of the four elements are done.
use Prim.Native.Nat.{◌*◌}
use Rattle.direct.specs.Product.{strided, partly}
use Rattle.floats.specs.Array.{at}
use mathlib.Core.Path.{◌≡◌}
use Rattle.direct.proofs.quad.Given as goal

abbrev pub invariant-loop-q : goal.invariant-loop-q
invariant-loop-q l = (l.e ≡ partly l.alpha (strided l.a.cells.now l.a.row l.a.column) (λ l' _. at l.b (l' * l.rb)) l.down l.k l.q 0 0 (at l.c 0)) × (l.f ≡ partly l.alpha (strided l.a.cells.now l.a.row l.a.column) (λ l' _. at l.b (l' * l.rb)) l.down l.k l.q 1 0 (at l.c 1)) × (l.g ≡ partly l.alpha (strided l.a.cells.now l.a.row l.a.column) (λ l' _. at l.b (l' * l.rb)) l.down l.k l.q 2 0 (at l.c 2)) × (l.h ≡ partly l.alpha (strided l.a.cells.now l.a.row l.a.column) (λ l' _. at l.b (l' * l.rb)) l.down l.k l.q 3 0 (at l.c 3))
