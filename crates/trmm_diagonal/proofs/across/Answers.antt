-- `across` meets its contract: the factors are held, by the side, and the groups make the terms.
use Rattle.trmm_diagonal.proofs.DiagonalLaws.{across-left, across-right}
use native.Mathlib.Omega.{arith}
use Rattle.trmm_diagonal.proofs.across.Goals as goal

pub returns-then-g : goal.returns-then-g
returns-then-g c = let p = c.requires.n_nonzero in
    across-left _ _ _ _ _ _ _ _ _ _ _ _ p.1 p.4 p.0 p.3 (omega arith) c.take.ensures
    _ c.if-g.true _ c.scale.ensures c.triangle.ensures.1 c.groups.ensures

pub returns : goal.returns
returns c = let p = c.requires.n_nonzero in
    across-right _ _ _ _ _ _ _ _ _ _ _ _ p.1 p.4 p.0 p.3 (omega arith) c.take.ensures
    _ c.if-g.false _ (omega (arith, c.triangle.ensures.0)) c.scale-2.ensures c.triangle.ensures.1 c.groups-2.ensures
