-- `gemm::accumulate` adds a product to its start, or leaves the start where alpha is zero.
use mathlib.Core.Path.{sym, ◌∙◌}
use native.Mathlib.Omega.{arith}
use Rattle.gemm.proofs.Sums.{start-alone, start-and-terms}
use Rattle.gemm.proofs.accumulate.Goals as goal

pub returns-then-is_zero : goal.returns-then-is_zero
returns-then-is_zero c = start-alone _ _ _ _ _ _ _ _ _ _ (omega (arith, c.requires.room)) (sym c.is_zero.ensures ∙ c.if-is_zero.true) c.region.ensures

pub returns : goal.returns
returns c = start-and-terms _ _ _ _ _ _ _ _ _ _ (omega (arith, c.requires.room)) _ _ c.factor.ensures (sym c.is_zero.ensures ∙ c.if-is_zero.false) c.region.ensures c.multiply.ensures
