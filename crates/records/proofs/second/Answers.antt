-- `second` by the routine.
use native.Mathlib.Omega.{arith}
use Rattle.definitions.specs.Sheet.{inputs, any}
use Rattle.records.specs.Judgement.{second}
use Rattle.records.proofs.second.Goals as goal

pub returns-in-Gemm : goal.returns-in-Gemm
unfolding second inputs any
returns-in-Gemm c = (grind (arith, c.in-Gemm.is), omega arith)

pub returns-in-Trmm : goal.returns-in-Trmm
unfolding second inputs any
returns-in-Trmm c = (grind (arith, c.in-Trmm.is), omega arith)
