-- `eliminate` keeps the progress of the elimination.
use Prim.Native.Nat.{ℕ, ◌+◌, ◌*◌, ◌≤◌, ◌<◌}
use lib.IntN.{pos, nat_abs}
use lib.ListN.{get_or}
use Rattle.integer_solve.specs.Elimination.{term}
use Rattle.integer_solve.proofs.Progress.{Progress}
use Rattle.integer_solve.proofs.eliminate.Given as goal

abbrev pub invariant-loop-q : goal.invariant-loop-q
invariant-loop-q l =
    Progress l.down l.n l.a l.b l.q l.s × ((i : ℕ) → i < l.n → nat_abs (get_or l.s i (pos 0)) ≤ 32768 + l.q * term)
