-- `pass::each` meets its contract: the elements below i are done.
use mathlib.Core.Path.{◌≡◌}
use lib.Ieee.{Float}
use Rattle.arrays.specs.Update.{update, below}
use Rattle.blocks.proofs.pass.each.Given as goal

abbrev pub invariant-loop-i : goal.invariant-loop-i
invariant-loop-i g l = (h : Float → Float) → ((x r : Float) → goal.F-post g l.f x r → r ≡ h x) → l.c ≡ update (below l.i (λ p x. h x)) l.initial.c
