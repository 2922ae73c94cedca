-- `Scalar::from` gives the case of a scalar: each return rewrites with the comparisons that led there.
use mathlib.Core.Path.{◌≡◌}
use mathlib.Core.Bool.{true, false}
use lib.Ieee.{eq, of_bits}
use Rattle.floats.specs.Operations.{0f, 1f}
use Rattle.definitions.specs.Number.{scalar}
use Rattle.definitions.proofs.ScalarFromF64.from.Goals as goal
use Rattle.definitions.proofs.ScalarFromF64.from.Goals.{Else-x}

not-zero : (c : Else-x) → eq c.args.x 0f ≡ false
unfolding of_bits
not-zero c = c.if-x.false

pub returns-then-x : goal.returns-then-x
unfolding scalar of_bits
returns-then-x c = let h : eq c.args.x 0f ≡ true = c.if-x.true in simp h

pub returns-then-x-2 : goal.returns-then-x-2
unfolding scalar of_bits
returns-then-x-2 c = let h : eq c.args.x 1f ≡ true = c.if-x-2.true in simp (not-zero (goal.at.returns-then-x-2 c).Else-x, h)

pub returns : goal.returns
unfolding scalar of_bits
returns c = let h : eq c.args.x 1f ≡ false = c.if-x-2.false in simp (not-zero (goal.at.returns c).Else-x, h)
