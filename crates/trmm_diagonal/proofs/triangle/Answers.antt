-- `triangle` meets its contract.
use mathlib.Core.Path.{◌∙◌}
use Rattle.trmm_diagonal.proofs.DiagonalLaws.{diagonal-index, triangle-held}
use native.Mathlib.Omega.{arith}
use Rattle.trmm_diagonal.proofs.triangle.Goals as goal

pub pivots-requires : goal.pivots-requires
pivots-requires c = let e = c.coefficients.ensures.0 in
    (omega arith, omega arith, omega (arith, e), λ i h. rw (diagonal-index c.args.by.a.t) at (c.requires.3 i i h h))

pub returns : goal.returns
returns c = let p = c.pivots.ensures in
    (p.same_length ∙ c.coefficients.ensures.0, triangle-held _ _ _ _ _ _ _ _ (omega arith) c.coefficients.ensures.1 p)
