-- `direct::single` meets its contract: the first q terms are done.
use Rattle.direct.specs.Product.{partly}
use Rattle.floats.specs.Array.{at}
use mathlib.Core.Path.{◌≡◌}
use Prim.Native.Nat.{◌*◌}
use Rattle.direct.proofs.single.Given as goal

abbrev pub invariant-loop-q : goal.invariant-loop-q
invariant-loop-q l = l.e ≡ partly l.alpha (λ _ l'. at l.a (l' * l.ca)) (λ l' _. at l.b (l' * l.rb)) l.down l.k l.q 0 0 (at l.c 0)
