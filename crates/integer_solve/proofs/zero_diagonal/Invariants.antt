-- `zero_diagonal` searches from the first entry on.
use mathlib.Core.Path.{◌≡◌}
use mathlib.Core.Bool.{Bool, false}
use mathlib.Core.List.{List}
use Prim.Native.Nat.{ℕ, ◌<◌}
use lib.Dec.{eqb}
use lib.IntN.{ℤ, pos, nat_abs}
use Rattle.definitions.specs.Storage.{stored}
use Rattle.integer_solve.proofs.zero_diagonal.Given as goal

abbrev pub test : List ℤ → ℕ → ℕ → Bool
test a n i = eqb (nat_abs (stored (pos 0) a n i i)) 0

abbrev pub invariant-loop-i : goal.invariant-loop-i
invariant-loop-i l = (p : ℕ) → p < l.i → test l.a l.n p ≡ false
