-- Tests in turn, each of which may refuse.
-- Assumes nothing.
use mathlib.Core.Path.{◌≡◌}
use Prim.Native.Nat.{ℕ}
use Rattle.std.proofs.Common.{arith}
use mathlib.Core.Bool.{false}
use borrow.Author.Tests.{ne_eqb}
use lib.Dec.{eqb}
use Rattle.std.specs.Prelude.{⊤, Result, Ok, Err, IsErrAnd}
use Rattle.arguments.specs.declared.Refusal.{Refusal}
use Rattle.arguments.specs.Refusal.{Gives, first_of}

-- A test that refuses has the answer.
pub stopped : {n : ℕ} (rest : ℕ) (e : Refusal) → Gives n (Err e) → Gives (first_of n rest) (Err e)
unfolding first_of
stopped {n} rest e h = let some : eqb n 0 ≡ false = ne_eqb n 0 (λ z. omega arith) in rw some h

-- The refusal of a test is handed on.
pub handed : {n : ℕ} (r : Result ⊤ Refusal) {e : Refusal} → IsErrAnd r (λ x. x ≡ e) → Gives n (Err e) → Gives n r
handed (Ok x) h g = absurd h
handed (Err x) h g = rw h g
