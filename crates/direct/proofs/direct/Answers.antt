-- `direct::direct` meets its contract, by the forms of the factors.
use Rattle.direct.specs.Product.{product}
use Rattle.direct.proofs.DirectLaws.{partly_none}
use Rattle.direct.proofs.direct.Goals as goal

pub returns-then-p-eq0 : goal.returns-then-p-eq0
unfolding product
returns-then-p-eq0 c = rw c.if-p-eq0.true (partly_none _ _ _ _ _ _ _ _ _)
