-- `turned` meets its contract.
use Rattle.trmm_diagonal.proofs.WalkLaws.{turned}
use native.Mathlib.Omega.{arith}
use Rattle.trmm_diagonal.proofs.turned.Goals as goal

pub returns : goal.returns
returns c = let p = c.requires.n_nonzero in
    rw c.requires.left (turned _ _ _ _ _ _ _ _ p.1 p.4 p.0 p.3 (omega arith) (rw c.requires.left at c.take.ensures) (rw c.requires.left at c.across.ensures) (rw c.requires.left at c.put.ensures))
